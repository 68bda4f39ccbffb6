-- `Book::hinted` meets its contract: a hint that is taken leads to a line that is the atom. Assumes nothing.
use Prim.Native.Nat.{◌<◌}
use Rattle.book_index.specs.Layout.{hint_count}
use Rattle.book.proofs.Book.hinted.Given as goal

abbrev pub invariant-loop : goal.invariant-loop
invariant-loop l = l.at < hint_count
