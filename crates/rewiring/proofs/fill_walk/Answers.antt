-- `rewiring::fill_walk` meets its contract: a walk over the set, in which each member's word becomes the given one. Assumes nothing.
use mathlib.Core.Path.{refl}
use Rattle.rewiring.specs.PlaceByPlace.{walk-store, walk-past, walk_end}
use Rattle.rewiring.proofs.fill_walk.Goals as goal

pub loop-node-preserved-then-i-words : goal.loop-node-preserved-then-i-words
loop-node-preserved-then-i-words c = walk-store _ c.loop-node.invariant c.in-Some.ensures.steps refl refl

pub loop-node-preserved : goal.loop-node-preserved
loop-node-preserved c = walk-past _ c.loop-node.invariant c.in-Some.ensures.steps c.if-i-words.false refl

pub returns : goal.returns
returns c = walk_end _ c.loop-node.invariant c.in-None.ensures.steps.0
