-- `walk::pass_nodes` meets its contract: each node is one step of the walk. Assumes nothing.
use mathlib.Core.Path.{◌≡◌}
use Prim.Native.Nat.{◌-◌}
use lib.ListN.{length}
use Rattle.walk.specs.Groups.{pass_nodes}
use Rattle.walk.proofs.pass_nodes.Given as goal

abbrev pub invariant-loop-node : goal.invariant-loop-node
invariant-loop-node l = pass_nodes l.text l.at ≡ pass_nodes l.text l.j

abbrev pub decreases-loop-node : goal.decreases-loop-node
decreases-loop-node l = length l.text - l.j
