-- `rewiring::interconnect` meets its contract: a walk over the set, in which each member's word gets the other members.
-- Assumes nothing.
use Prim.Native.Nat.{ℕ}
use Rattle.nodes.specs.Sets.{union, without_node}
use Rattle.rewiring.specs.PlaceByPlace.{Walk}
use Rattle.rewiring.proofs.interconnect.Given as goal

-- the word of node i gets the others of m
abbrev pub meeting : ℕ → ℕ → ℕ → ℕ
meeting m i w = union w (without_node m i)

abbrev pub invariant-loop-node : goal.invariant-loop-node
invariant-loop-node l = Walk (meeting l.set) l.set l.initial.links l.node-iterator.0 l.links
