-- `book::among_first` meets its contract: the atom is none of the lines passed. Assumes nothing.
use Rattle.std.proofs.Common.{refl, sym, ap, ◌∙◌, arith}
use Rattle.tokens.specs.Reserved.{same, among}
use Rattle.book.specs.Book.{lines}
use Rattle.book.specs.PlaceLaws.{among-first-own, among-first-more}
use Rattle.book.proofs.among_first.Goals as goal

pub loop-j-init : goal.loop-j-init
unfolding among
loop-j-init c = refl

pub returns-then-same : goal.returns-then-same
returns-then-same c =
    sym
    (among-first-own _ c.args.atom.now (lines c.args.book.now) c.loop-j.j c.loop-j-test.true c.requires.1
    (ap (same c.args.atom.now) (sym c.noted.ensures) ∙ sym c.same.ensures ∙ c.if-same.true))

pub loop-j-preserved : goal.loop-j-preserved
loop-j-preserved c =
    among-first-more c.loop-j.j c.args.atom.now (lines c.args.book.now) (omega arith) c.loop-j.invariant
    (ap (same c.args.atom.now) (sym c.noted.ensures) ∙ sym c.same.ensures ∙ c.if-same.false)
