-- `book::hint` meets its contract: the numbers stay, and each hint leads to a line. Assumes nothing.
use Rattle.std.proofs.Common.{arith}
use Rattle.book.specs.LineLaws.{lines-count}
use Rattle.book.specs.Hinting.{line-count, indexed-none, indexed-more}
use Rattle.book.proofs.hint.Goals as goal

pub overflow_add-count : goal.overflow_add-count
overflow_add-count c = record { fits = omega (arith, line-count _ _ _ c.requires, lines-count c.args.book.now) }

pub loop-j-init : goal.loop-j-init
loop-j-init c = (omega arith, omega (arith, line-count _ _ _ c.requires), rw c.clear.ensures (indexed-none _ _ _ c.requires))

pub loop-j-preserved : goal.loop-j-preserved
loop-j-preserved c =
    let l = c.loop-j in
    (l.invariant.0, l.invariant.1, indexed-more _ _ _ _ _ l.invariant.2 c.free-at.ensures (omega (arith, l.invariant)) (omega (arith, l.invariant)))
