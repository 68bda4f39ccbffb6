-- `walk::pass_nodes` ends: each node lies ahead. Assumes nothing.
use native.Mathlib.Omega.{arith}
use Rattle.walk.specs.Unfold.{node-ahead}
use Rattle.walk.proofs.pass_nodes.Goals as goal

pub loop-node-smaller : goal.loop-node-smaller
loop-node-smaller c = grind (arith, node-ahead)
