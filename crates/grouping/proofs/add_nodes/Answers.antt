-- `grouping::add_nodes` meets its contract: each return is one case of the rule.
-- Assumes nothing.
use borrow.Author.Rules.{rules}
use Rattle.semantics.specs.Table.{state_of}
use Rattle.std.specs.Prelude.{Ok, Err}
use Rattle.place.specs.Sound.{here, regular, base, nodes-few, granted-here}
use Rattle.returns.specs.Judged.{refused, denied, step-add}
use Rattle.returns.specs.Shown.{says-kept}
use Rattle.connecting.specs.Loosed.{regular-rostered}
use Rattle.grouping.specs.Grouping.{seat-few, add-joined}
use Rattle.grouping.proofs.add_nodes.Goals as goal

pub returns-in-Err : goal.returns-in-Err
unfolding state_of
returns-in-Err c =
    rw c.refused.ensures (says-kept c.args.t.now c.requires.t_value
    (refused (step-add 0 c.args.caller (here c.args.t.now) c.args.s c.args.set).judging (rw c.size-size.ensures.value at c.check_set.ensures) c.in-Err.is))

pub invariant_of-members : goal.invariant_of-members
invariant_of-members c = record { sized = c.requires.t_len; below = seat-few c.args.t.now c.requires.t_value ((granted-here c.args.t.now c.requires.t_value c.args.caller c.args.s c.place_for.result (Ok c.in-Ok.at) c.place_for.ensures c.in-Ok.is)).seat }

pub leave_free-requires : goal.leave_free-requires
leave_free-requires c =
    record { t_len = c.requires.t_len; t_bound = nodes-few c.args.t.now c.requires.t_value }

pub set_members-requires : goal.set_members-requires
set_members-requires c =
    record { t_len = search rules; at_lt_group_limit = (seat-few c.args.t.now c.requires.t_value ((granted-here c.args.t.now c.requires.t_value c.args.caller c.args.s c.place_for.result (Ok c.in-Ok.at) c.place_for.ensures c.in-Ok.is)).seat) }

pub returns-in-Err-place_for : goal.returns-in-Err-place_for
unfolding state_of
returns-in-Err-place_for c =
    let t = c.args.t.now in
    rw c.refused-in-Err-place_for.ensures (says-kept t c.requires.t_value
    (denied (step-add 0 c.args.caller (here t) c.args.s c.args.set) (rw c.size-size.ensures.value at c.check_set.ensures) c.in_default.is
    (granted-here t c.requires.t_value c.args.caller c.args.s c.place_for.result (Err c.in-Err-place_for.denial) c.place_for.ensures c.in-Err-place_for.is)))

pub returns-in-Ok : goal.returns-in-Ok
unfolding state_of
returns-in-Ok c =
    let t = c.args.t.now in
    let r = ((granted-here c.args.t.now c.requires.t_value c.args.caller c.args.s c.place_for.result (Ok c.in-Ok.at) c.place_for.ensures c.in-Ok.is)).seat in
    rw c.done.ensures (add-joined t c.requires.t_value c.args.caller c.args.s c.args.set (rw c.size-size.ensures.value at c.check_set.ensures) c.in_default.is ((granted-here c.args.t.now c.requires.t_value c.args.caller c.args.s c.place_for.result (Ok c.in-Ok.at) c.place_for.ensures c.in-Ok.is))
    c.union-members.result (rw c.members.ensures at c.union-members.ensures) c.set_members.new.t
    (c.set_members.ensures _ (c.interconnect.ensures _ (c.leave_free.ensures (here t) (base t c.requires.t_value) (regular-rostered (regular t c.requires.t_value)))) r.before r.after r.group r.is r.stands))
