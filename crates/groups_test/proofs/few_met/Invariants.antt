-- `groups_test::few_met` meets its contract: what is carried is the test of the s_groups passed.
-- Assumes nothing.
use mathlib.Core.Path.{◌≡◌}
use Rattle.free_test.specs.WireTests.{all_below}
use Rattle.groups_test.specs.GroupTests.{met_right}
use Rattle.groups_test.proofs.few_met.Given as goal

abbrev pub invariant-loop-i : goal.invariant-loop-i
invariant-loop-i l = l.right ≡ all_below l.i (met_right l.t.words.now)
