-- `Book::hinted` meets its contract: a hint that is taken leads to a line that is the atom. Assumes nothing.
use Rattle.std.proofs.Common.{sym, ◌∙◌, arith}
use Rattle.tokens.specs.Words.{same_eq}
use Rattle.book.proofs.Book.hinted.Goals as goal

pub returns-then-same : goal.returns-then-same
returns-then-same c =
    let h = c.args.self.now.indexed.hints c.loop.at c.loop.invariant in
    (omega (arith, h), omega (arith, h), sym c.noted.ensures ∙ sym (same_eq c.args.atom.now c.noted.result.now (sym c.same.ensures ∙ c.if-same.true)))
