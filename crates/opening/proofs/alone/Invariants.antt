-- `opening::alone` meets its contract: a walk over the set, in which each member's word becomes that member. Assumes nothing.
use Rattle.nodes.specs.Sets.{with_node}
use Rattle.rewiring.specs.PlaceByPlace.{Walk}
use Rattle.opening.proofs.alone.Given as goal

abbrev pub invariant-loop-node : goal.invariant-loop-node
invariant-loop-node l = Walk (λ i w. with_node 0 i) l.set l.initial.words l.node-iterator.0 l.words
