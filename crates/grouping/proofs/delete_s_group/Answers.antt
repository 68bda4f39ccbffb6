-- `grouping::delete_s_group` meets its contract: each return is one case of the rule.
-- Assumes nothing.
use Rattle.semantics.specs.Table.{state_of}
use Rattle.semantics.specs.Steps.{become_free}
use Rattle.std.specs.Prelude.{Ok, Err}
use Rattle.place.specs.Sound.{here, base, groups_few, granted-here, seat-below}
use Rattle.returns.specs.Judged.{refused}
use Rattle.returns.specs.Shown.{says-kept}
use Rattle.grouping.specs.Grouping.{seat-few, turned_away, step_gone, delete-done, apart-deleted}
use Rattle.grouping.proofs.delete_s_group.Goals as goal

pub returns-in-Err : goal.returns-in-Err
unfolding state_of
returns-in-Err c =
    rw c.refused.ensures (says-kept c.args.t.now c.requires.t_value
    (refused (step_gone 0 c.args.caller (here c.args.t.now) c.args.s).judging (rw c.size-size.ensures.value at c.check_group.ensures) c.in-Err.is))

pub invariant_of-members : goal.invariant_of-members
invariant_of-members c = record { sized = c.requires.t_len; below = seat-few c.args.t.now c.requires.t_value ((granted-here c.args.t.now c.requires.t_value c.args.caller c.args.s c.place_for.result (Ok c.in-Ok.at) c.place_for.ensures c.in-Ok.is)).seat }

pub delete_group-requires : goal.delete_group-requires
delete_group-requires c =
    record { t_len = c.requires.t_len; t_bound = groups_few c.args.t.now c.requires.t_value; at_bound = seat-below c.args.t.now c.requires.t_value ((granted-here c.args.t.now c.requires.t_value c.args.caller c.args.s c.place_for.result (Ok c.in-Ok.at) c.place_for.ensures c.in-Ok.is)).seat }

pub returns-in-Err-place_for : goal.returns-in-Err-place_for
unfolding state_of
returns-in-Err-place_for c =
    let t = c.args.t.now in
    rw c.refused-in-Err-place_for.ensures (says-kept t c.requires.t_value
    (turned_away (step_gone 0 c.args.caller (here t) c.args.s) (rw c.size-size.ensures.value at c.check_group.ensures) c.in_default.is
    (granted-here t c.requires.t_value c.args.caller c.args.s c.place_for.result (Err c.in-Err-place_for.denial) c.place_for.ensures c.in-Err-place_for.is)))

pub returns-in-Ok : goal.returns-in-Ok
unfolding state_of become_free
returns-in-Ok c =
    let t = c.args.t.now in
    let r = ((granted-here c.args.t.now c.requires.t_value c.args.caller c.args.s c.place_for.result (Ok c.in-Ok.at) c.place_for.ensures c.in-Ok.is)).seat in
    rw c.done.ensures (delete-done t c.requires.t_value c.args.caller c.args.s (rw c.size-size.ensures.value at c.check_group.ensures) c.in_default.is ((granted-here c.args.t.now c.requires.t_value c.args.caller c.args.s c.place_for.result (Ok c.in-Ok.at) c.place_for.ensures c.in-Ok.is)) c.become_free.new.t
    (rw c.members-members.ensures at (c.become_free.ensures _ (c.delete_group.ensures (here t) (base t c.requires.t_value) r.before r.after r.group r.is r.stands) (apart-deleted t c.requires.t_value r))))
