-- `grouping::remove_nodes` meets its contract: each return is one case of the rule.
-- Assumes nothing.
use borrow.Author.Rules.{rules}
use native.Mathlib.Omega.{arith}
use mathlib.Core.List.{List}
use Rattle.entries.specs.Entries.{Entry, drop_hosted}
use Rattle.semantics.specs.Table.{state_of}
use Rattle.semantics.specs.Steps.{become_free}
use Rattle.std.specs.Prelude.{Ok, Err}
use Rattle.place.specs.Sound.{here, regular, base, groups_few, granted-here, seat-below}
use Rattle.names.specs.NamesAt.{names_at, renamed, with_names}
use Rattle.names.specs.NamesHere.{standing, names-put}
use Rattle.returns.specs.Judged.{refused}
use Rattle.returns.specs.Shown.{says-kept}
use Rattle.grouping.specs.Grouping.{seat-few, turned_away, step-removed, remove-left, remove-all, apart-deleted, apart-left}
use Rattle.grouping.proofs.remove_nodes.Goals as goal

pub returns-in-Err : goal.returns-in-Err
unfolding state_of
returns-in-Err c =
    rw c.refused.ensures (says-kept c.args.t.now c.requires.t_value
    (refused (step-removed 0 c.args.caller (here c.args.t.now) c.args.s c.args.set).judging (rw c.size-size.ensures.value at c.check_set.ensures) c.in-Err.is))

pub invariant_of-members : goal.invariant_of-members
invariant_of-members c = record { sized = c.requires.t_len; below = seat-few c.args.t.now c.requires.t_value ((granted-here c.args.t.now c.requires.t_value c.args.caller c.args.s c.place_for.result (Ok c.in-Ok.at) c.place_for.ensures c.in-Ok.is)).seat }

pub delete_group-requires : goal.delete_group-requires
delete_group-requires c =
    record { t_len = c.requires.t_len; t_bound = groups_few c.args.t.now c.requires.t_value; at_bound = seat-below c.args.t.now c.requires.t_value ((granted-here c.args.t.now c.requires.t_value c.args.caller c.args.s c.place_for.result (Ok c.in-Ok.at) c.place_for.ensures c.in-Ok.is)).seat }

pub returns-then-left-eq0 : goal.returns-then-left-eq0
unfolding state_of become_free
returns-then-left-eq0 c =
    let t = c.args.t.now in
    let r = ((granted-here c.args.t.now c.requires.t_value c.args.caller c.args.s c.place_for.result (Ok c.in-Ok.at) c.place_for.ensures c.in-Ok.is)).seat in
    rw c.done.ensures (remove-all t c.requires.t_value c.args.caller c.args.s c.args.set (rw c.size-size.ensures.value at c.check_set.ensures) c.in_default.is ((granted-here c.args.t.now c.requires.t_value c.args.caller c.args.s c.place_for.result (Ok c.in-Ok.at) c.place_for.ensures c.in-Ok.is))
    c.diff-left.result (rw c.members-members.ensures at c.diff-left.ensures) c.become_free.new.t c.if-left-eq0.true
    (rw c.members-members.ensures at (c.become_free.ensures _ (c.delete_group.ensures (here t) (base t c.requires.t_value) r.before r.after r.group r.is r.stands) (apart-deleted t c.requires.t_value r))))

pub drop_hosted-requires : goal.drop_hosted-requires
drop_hosted-requires c = record { t_len = search rules; at_lt_group_limit = omega (arith, (seat-few c.args.t.now c.requires.t_value ((granted-here c.args.t.now c.requires.t_value c.args.caller c.args.s c.place_for.result (Ok c.in-Ok.at) c.place_for.ensures c.in-Ok.is)).seat)) }

pub set_members-requires : goal.set_members-requires
set_members-requires c = record { t_len = search rules; at_lt_group_limit = (seat-few c.args.t.now c.requires.t_value ((granted-here c.args.t.now c.requires.t_value c.args.caller c.args.s c.place_for.result (Ok c.in-Ok.at) c.place_for.ensures c.in-Ok.is)).seat) }

pub returns-in-Err-place_for : goal.returns-in-Err-place_for
unfolding state_of
returns-in-Err-place_for c =
    let t = c.args.t.now in
    rw c.refused-in-Err-place_for.ensures (says-kept t c.requires.t_value
    (turned_away (step-removed 0 c.args.caller (here t) c.args.s c.args.set) (rw c.size-size.ensures.value at c.check_set.ensures) c.in_default.is
    (granted-here t c.requires.t_value c.args.caller c.args.s c.place_for.result (Err c.in-Err-place_for.denial) c.place_for.ensures c.in-Err-place_for.is)))

pub returns-else-left-eq0 : goal.returns-else-left-eq0
unfolding state_of become_free
returns-else-left-eq0 c =
    let t = c.args.t.now in
    let r = ((granted-here c.args.t.now c.requires.t_value c.args.caller c.args.s c.place_for.result (Ok c.in-Ok.at) c.place_for.ensures c.in-Ok.is)).seat in
    let ns : List Entry = drop_hosted c.inter-gone.result (names_at c.in-Ok.at (here t)) in
    rw c.done-in-Ok.ensures (remove-left t c.requires.t_value c.args.caller c.args.s c.args.set (rw c.size-size.ensures.value at c.check_set.ensures) c.in_default.is ((granted-here c.args.t.now c.requires.t_value c.args.caller c.args.s c.place_for.result (Ok c.in-Ok.at) c.place_for.ensures c.in-Ok.is))
    c.diff-left.result (rw c.members-members.ensures at c.diff-left.ensures) c.become_free-in-Ok.new.t c.if-left-eq0.false c.inter-gone.result (rw c.members-members.ensures at c.inter-gone.ensures)
    (c.become_free-in-Ok.ensures _ (c.set_members.ensures (with_names c.in-Ok.at ns (here t))
    (c.drop_hosted.ensures (here t) (base t c.requires.t_value) (standing (regular t c.requires.t_value) r)) r.before r.after (renamed ns r.group) (names-put (here t) r ns) r.stands)
    (apart-left t c.requires.t_value r c.args.set c.diff-left.result ns (rw c.members-members.ensures at c.diff-left.ensures))))
