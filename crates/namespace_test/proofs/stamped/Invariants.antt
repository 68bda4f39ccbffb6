-- `namespace_test::stamped` meets its contract: the words before i are passed. Assumes nothing.
use mathlib.Core.Path.{◌≡◌}
use Prim.Native.Nat.{◌-◌, ◌<◌}
use lib.ListN.{length}
use Rattle.namespace_test.specs.Passing.{name_before, Passed}
use Rattle.namespace_test.proofs.stamped.Given as goal

abbrev pub invariant-loop-i : goal.invariant-loop-i
invariant-loop-i l = (l.i < length l.ns → l.last ≡ name_before l.i l.ns) × (Passed l.ns (length l.ns) l.stamp l.i l.seen)

abbrev pub decreases-loop-i : goal.decreases-loop-i
decreases-loop-i l = length l.ns - l.i
