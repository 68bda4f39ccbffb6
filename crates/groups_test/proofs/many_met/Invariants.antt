-- `groups_test::many_met` meets its contract: what is carried is the test of the s_groups passed, whose members know one another.
-- Assumes nothing.
use mathlib.Core.Path.{◌≡◌}
use Rattle.free_test.specs.WireTests.{all_below}
use Rattle.groups_test.specs.GroupTests.{met_right}
use Rattle.groups_test.proofs.many_met.Given as goal

abbrev pub invariant-loop-i : goal.invariant-loop-i
invariant-loop-i l = l.right ≡ all_below l.i (met_right l.t.words.now)
