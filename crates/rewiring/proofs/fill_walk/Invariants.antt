-- `rewiring::fill_walk` meets its contract: a walk over the set, in which each member's word becomes the given one. Assumes nothing.
use Rattle.rewiring.specs.PlaceByPlace.{Walk}
use Rattle.rewiring.proofs.fill_walk.Given as goal

abbrev pub invariant-loop-node : goal.invariant-loop-node
invariant-loop-node l = Walk (λ i w. l.word) l.set l.initial.words l.node-iterator.0 l.words
