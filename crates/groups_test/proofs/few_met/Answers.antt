-- `groups_test::few_met` meets its contract: what is carried is the test of the s_groups passed.
-- Assumes nothing.
use mathlib.Core.Path.{sym}
use Rattle.free_test.specs.Below.{below_none, below_step}
use Rattle.groups_test.proofs.few_met.Goals as goal

pub loop-i-init : goal.loop-i-init
loop-i-init c = sym (below_none _)

pub loop-i-preserved : goal.loop-i-preserved
loop-i-preserved c =
    let v = c.loop-i in
    rw below_step (rw (← v.invariant, ← c.members_met-right.ensures))
