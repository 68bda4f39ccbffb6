-- `walk::pass_groups` meets its contract: each group is one step of the walk. Assumes nothing.
use mathlib.Core.Path.{◌≡◌}
use Prim.Native.Nat.{◌-◌}
use lib.ListN.{length}
use Rattle.walk.specs.Groups.{pass_groups_from, pass_groups}
use Rattle.walk.proofs.pass_groups.Given as goal

abbrev pub invariant-loop-front : goal.invariant-loop-front
invariant-loop-front l = pass_groups l.text l.at ≡ pass_groups_from l.text l.j l.begun

abbrev pub decreases-loop-front : goal.decreases-loop-front
decreases-loop-front l = length l.text - l.j
