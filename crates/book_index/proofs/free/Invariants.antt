-- `book_index::free` meets its contract. Assumes nothing.
use Prim.Native.Nat.{◌<◌}
use Rattle.book_index.specs.Layout.{hint_count}
use Rattle.book_index.proofs.free.Given as goal

abbrev pub invariant-loop : goal.invariant-loop
invariant-loop l = l.at < hint_count
