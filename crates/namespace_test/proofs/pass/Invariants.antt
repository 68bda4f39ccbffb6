-- `namespace_test::pass` meets its contract: each word that it goes past is plainly right. Assumes nothing.
use Prim.Native.Nat.{◌-◌, ◌≤◌}
use lib.ListN.{length}
use Rattle.namespace_test.specs.Passing.{Reached}
use Rattle.namespace_test.proofs.pass.Given as goal

abbrev pub invariant-loop-i : goal.invariant-loop-i
invariant-loop-i l = (l.from ≤ l.i) × (Reached l.ns (length l.ns) l.stamp l.i l.last l.seen)

abbrev pub decreases-loop-i : goal.decreases-loop-i
decreases-loop-i l = length l.ns - l.i
