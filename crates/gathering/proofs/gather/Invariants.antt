-- `gathering::gather` meets its contract: between two groups, those passed are in the book, told apart and written. Assumes nothing.
use Prim.Native.Nat.{◌-◌}
use lib.ListN.{length}
use Rattle.gathering.specs.Turns.{Taken}
use Rattle.gathering.proofs.gather.Given as goal

abbrev pub invariant-loop-end : goal.invariant-loop-end
invariant-loop-end l = Taken l.book.nodes l.book.text.now l.text l.g l.j l.begun l.k l.plan

abbrev pub decreases-loop-end : goal.decreases-loop-end
decreases-loop-end l = length l.text - l.j
