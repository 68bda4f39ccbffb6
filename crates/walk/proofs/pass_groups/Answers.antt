-- `walk::pass_groups` ends: each group lies ahead. Assumes nothing.
use native.Mathlib.Omega.{arith}
use Rattle.walk.specs.Unfold.{group-ahead, head-ahead, nodes-ahead}
use Rattle.walk.proofs.pass_groups.Goals as goal

pub loop-front-smaller : goal.loop-front-smaller
loop-front-smaller c = grind (arith, group-ahead, head-ahead, nodes-ahead)
