-- `grouping::new_s_group` meets its contract: each return is one case of the rule.
-- Assumes nothing.
use borrow.Author.Rules.{rules}
use mathlib.Core.Path.{ap, ◌∙◌}
use native.Mathlib.Omega.{arith}
use lib.ListN.{length, get_or, length-append}
use Rattle.semantics.specs.WordsOfState.{Laid, count-is}
use Rattle.semantics.specs.Sizes.{names_per_group}
use Rattle.std.specs.Prelude.{Err}
use mathlib.Core.Bool.{not}
use Rattle.inputs.proofs.Reasons.{passes}
use Rattle.inputs.specs.Passed.{creation_done}
use Rattle.place.specs.Sound.{here, regular, base, nodes-few, sought-here}
use Rattle.connecting.specs.Loosed.{regular-rostered}
use Rattle.grouping.specs.Grouping.{joined, taken-by, new-refused, new-made}
use Rattle.grouping.proofs.new_s_group.Goals as goal

pub returns-in-Err : goal.returns-in-Err
returns-in-Err c =
    let a = c.args in
    let t = a.t.now in
    rw c.refused.ensures (new-refused t c.requires.t_value a.caller a.s a.set (rw (c.size.ensures.value, c.count.ensures.value) at c.check_creation.ensures)
    (c.is_ok.ensures.value ∙ taken-by t c.requires.t_value a.s c.place_of-place.result c.place_of-place.ensures) c.in-Err.is)

pub leave_free-requires : goal.leave_free-requires
leave_free-requires c =
    record { t_len = c.requires.t_len; t_bound = nodes-few c.args.t.now c.requires.t_value }

pub unwrap_err-at-requires : goal.unwrap_err-at-requires
unwrap_err-at-requires c =
    let a = c.args in
    let passed = creation_done (get_or a.t.now 0 0) (get_or a.t.now 2 0) a.caller a.s a.set c.is_ok.result (passes (rw (c.size.ensures.value, c.count.ensures.value) at c.check_creation.ensures) c.in_default.is) in
    c.is_ok.ensures.negation ∙ ap not passed.2

pub insert_group-requires : goal.insert_group-requires
insert_group-requires c =
    let a = c.args in
    let t = a.t.now in
    let r = sought-here t c.requires.t_value a.s c.place_of-place.result (Err c.unwrap_err-at.result) c.place_of-place.ensures c.unwrap_err-at.ensures in
    let the : Laid names_per_group (joined a.set a.set (here t).groups (here t)) c.interconnect.new.t =
    c.interconnect.ensures _ (c.leave_free.ensures (here t) (base t c.requires.t_value) (regular-rostered (regular t c.requires.t_value))) in
    let n = count-is the in
    let m = count-is (base t c.requires.t_value) in
    let passed = creation_done (get_or t 0 0) (get_or t 2 0) a.caller a.s a.set c.is_ok.result (passes (rw (c.size.ensures.value, c.count.ensures.value) at c.check_creation.ensures) c.in_default.is) in
    record { t_len = search rules; t_bound = omega (arith, passed.3); at_bound = omega (arith, r.stands, ap length r.is, length-append r.before r.after) }

pub returns : goal.returns
returns c =
    let a = c.args in
    let t = a.t.now in
    let r = sought-here t c.requires.t_value a.s c.place_of-place.result (Err c.unwrap_err-at.result) c.place_of-place.ensures c.unwrap_err-at.ensures in
    let the : Laid names_per_group (joined a.set a.set (here t).groups (here t)) c.interconnect.new.t =
    c.interconnect.ensures _ (c.leave_free.ensures (here t) (base t c.requires.t_value) (regular-rostered (regular t c.requires.t_value))) in
    rw c.done.ensures (new-made t c.requires.t_value a.caller a.s a.set (rw (c.size.ensures.value, c.count.ensures.value) at c.check_creation.ensures)
    (c.is_ok.ensures.value ∙ taken-by t c.requires.t_value a.s c.place_of-place.result c.place_of-place.ensures) c.in_default.is r c.insert_group.new.t
    (c.insert_group.ensures _ the r.before r.after r.is r.stands))
