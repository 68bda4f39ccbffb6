-- `reaching::whereis_name_at` meets its contract: a refusal, or the caller connects with the node and what the node finds is told.
-- Assumes nothing.
use mathlib.Core.Path.{sym, ap, ◌∙◌}
use native.Mathlib.Omega.{arith}
use lib.ListN.{get_or}
use Rattle.semantics.specs.Table.{state_of}
use Rattle.std.specs.Prelude.{Ok, Err}
use Rattle.inputs.specs.Passed.{asking_done}
use Rattle.names.specs.Looked.{looked_up}
use Rattle.inputs.proofs.Reasons.{passes}
use Rattle.place.specs.Sound.{here, regular, base}
use Rattle.returns.specs.Judged.{refused, step-whereis-at}
use Rattle.returns.specs.Shown.{says-kept}
use Rattle.reaching.specs.Reaching.{in-limit, whereis-told}
use Rattle.reaching.proofs.whereis_name_at.Goals as goal

pub returns-in-Err : goal.returns-in-Err
unfolding state_of
returns-in-Err c =
    let a = c.args in
    rw c.refused.ensures (says-kept a.t.now c.requires.t_value
    (refused (step-whereis-at 0 a.caller (here a.t.now) a.node a.s a.n) (rw c.size-size.ensures.value at c.check_asking.ensures) c.in-Err.is))

pub connect-requires : goal.connect-requires
unfolding state_of
connect-requires c =
    let a = c.args in
    let d = asking_done (get_or a.t.now 0 0) a.caller a.node a.s a.n (passes (rw c.size-size.ensures.value at c.check_asking.ensures) c.in_default.is) in
    let from = in-limit a.t.now c.requires.t_value d.0 in
    let to = in-limit a.t.now c.requires.t_value d.3 in
    record { t_len = c.requires.t_len; a_lt_node_limit = omega arith; b_lt_node_limit = omega arith }

pub returns-in-Ok : goal.returns-in-Ok
unfolding state_of
returns-in-Ok c =
    let a = c.args in
    let t = c.args.t.now in
    rw c.said.ensures (whereis-told t c.requires.t_value a.caller a.node a.s a.n (rw c.size-size.ensures.value at c.check_asking.ensures) c.in_default.is
    (Ok (c.in-Ok.p, c.in-Ok.why)) (ap looked_up (sym c.in-Ok.is) ∙ c.look-seen.ensures) c.connect.new.t
    (c.connect.ensures (here t) (base t c.requires.t_value) (regular t c.requires.t_value)))

pub returns-in-Err-seen : goal.returns-in-Err-seen
unfolding state_of
returns-in-Err-seen c =
    let a = c.args in
    let t = c.args.t.now in
    rw c.said-in-Err-seen.ensures (whereis-told t c.requires.t_value a.caller a.node a.s a.n (rw c.size-size.ensures.value at c.check_asking.ensures) c.in_default.is
    (Err c.in-Err-seen.why) (ap looked_up (sym c.in-Err-seen.is) ∙ c.look-seen.ensures) c.connect.new.t
    (c.connect.ensures (here t) (base t c.requires.t_value) (regular t c.requires.t_value)))
