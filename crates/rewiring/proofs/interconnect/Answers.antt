-- `rewiring::interconnect` meets its contract: a walk over the set, in which each member's word gets the other members. Assumes nothing.
use mathlib.Core.Path.{refl, ap}
use Rattle.nodes.specs.Sets.{union}
use Rattle.semantics.specs.Steps.{interconnect}
use Rattle.rewiring.specs.PlaceByPlace.{walk-store, walk-past, walk_end}
use Rattle.rewiring.proofs.interconnect.Invariants.{meeting}
use Rattle.rewiring.proofs.interconnect.Goals as goal

pub loop-node-preserved-then-i-links : goal.loop-node-preserved-then-i-links
unfolding union
loop-node-preserved-then-i-links c = walk-store (meeting _) c.loop-node.invariant c.in-Some.ensures.steps (ap (union _) c.without.ensures) refl

pub loop-node-preserved : goal.loop-node-preserved
loop-node-preserved c = walk-past (meeting _) c.loop-node.invariant c.in-Some.ensures.steps c.if-i-links.false refl

pub returns : goal.returns
unfolding interconnect
returns c = walk_end (meeting _) c.loop-node.invariant c.in-None.ensures.steps.0
