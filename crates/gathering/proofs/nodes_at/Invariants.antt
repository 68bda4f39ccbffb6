-- `gathering::nodes_at` meets its contract: what the nodes from j on make of the set so far, all of them make. Assumes nothing.
use Prim.Native.Nat.{ℕ, ◌-◌}
use lib.ListN.{length}
use Rattle.gathering.specs.Gathering.{Noded}
use Rattle.gathering.proofs.nodes_at.Given as goal

abbrev pub invariant-loop-node : goal.invariant-loop-node
invariant-loop-node l =
    (s m : ℕ) → Noded l.book.nodes l.book.text.now l.text l.j l.set s m → Noded l.book.nodes l.book.text.now l.text l.at 0 s m

abbrev pub decreases-loop-node : goal.decreases-loop-node
decreases-loop-node l = length l.text - l.j
