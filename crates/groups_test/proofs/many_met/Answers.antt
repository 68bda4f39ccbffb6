-- `groups_test::many_met` meets its contract: what is carried is the test of the s_groups passed, whose members know one another.
-- Assumes nothing.
use mathlib.Core.Path.{sym, ap, ◌∙◌}
use native.Mathlib.Omega.{arith}
use lib.ListN.{length}
use Rattle.semantics.specs.Sizes.{links_at, free_at}
use Rattle.semantics.specs.Soundness.{members_of}
use Rattle.free_test.specs.Below.{below_none, below_step}
use Rattle.free_test.specs.Knowing.{known-met}
use Rattle.groups_test.specs.GroupMembers.{length_part}
use Rattle.groups_test.proofs.many_met.Goals as goal

pub loop-i-init : goal.loop-i-init
loop-i-init c = sym (below_none _)

pub loop-i-preserved : goal.loop-i-preserved
loop-i-preserved c =
    let v = c.loop-i in
    let t = c.args.t.words.now in
    let whole = rw c.unwrap-links.ensures at c.as_array.ensures.cases in
    let known = c.know in
    let met = known-met c.unwrap-links.result.now known.new.known (members_of t v.i) (ap length whole.same ∙ length_part t links_at free_at (omega arith)) known.ensures in
    rw below_step (rw (← v.invariant, ← whole.same, ← met, ← c.known_met-right.ensures))
