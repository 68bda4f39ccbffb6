-- `book::hint` meets its contract: the numbers stay, and each hint leads to a line. Assumes nothing.
use Prim.Native.Nat.{◌≤◌}
use lib.ListN.{length}
use Rattle.book.specs.Book.{lines}
use Rattle.book.specs.Index.{indexed_lines, Indexed}
use Rattle.book.proofs.hint.Given as goal

abbrev pub invariant-loop-j : goal.invariant-loop-j
invariant-loop-j l = (l.last ≤ indexed_lines) × (l.last ≤ length (lines l.book)) × Indexed l.n l.book l.index
