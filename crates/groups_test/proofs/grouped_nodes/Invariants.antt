-- `groups_test::grouped_nodes` meets its contract: what is carried is the test of the s_groups passed, the nodes in them, and the last name.
-- Assumes nothing.
use mathlib.Core.Path.{◌≡◌}
use Rattle.free_test.specs.WireTests.{all_below}
use Rattle.groups_test.specs.GroupTests.{name_before, grouped_in}
use Rattle.groups_test.specs.GroupMembers.{group_right}
use Rattle.groups_test.proofs.grouped_nodes.Given as goal

abbrev pub invariant-loop-i : goal.invariant-loop-i
invariant-loop-i l = record {
  tested : l.right ≡ all_below l.i (group_right l.cap l.t.words.now);
  gathered : l.all ≡ grouped_in l.t.words.now l.i;
  before : l.last ≡ name_before l.t.words.now l.i;
}
