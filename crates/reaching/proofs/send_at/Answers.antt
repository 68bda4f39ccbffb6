-- `reaching::send_at` meets its contract: a refusal, or the caller connects with the node, and with the host of a pid that the node finds.
-- Assumes nothing.
use mathlib.Core.Path.{sym, ap, ◌∙◌}
use native.Mathlib.Omega.{arith}
use lib.ListN.{get_or}
use Rattle.semantics.specs.Table.{state_of}
use Rattle.std.specs.Prelude.{Ok, Err}
use Rattle.inputs.specs.Passed.{asking_done}
use Rattle.names.specs.Looked.{looked_up}
use Rattle.inputs.proofs.Reasons.{passes}
use Rattle.place.specs.Sound.{here, regular, base}
use Rattle.returns.specs.Judged.{refused, step-send_at}
use Rattle.returns.specs.Shown.{says-kept}
use Rattle.reaching.specs.Reaching.{in-limit, host-here, send_at-told}
use Rattle.reaching.proofs.send_at.Goals as goal

pub returns-in-Err : goal.returns-in-Err
unfolding state_of
returns-in-Err c =
    let a = c.args in
    rw c.refused.ensures (says-kept a.t.now c.requires.t_value
    (refused (step-send_at 0 a.caller (here a.t.now) a.node a.s a.n) (rw c.size-size.ensures.value at c.check_asking.ensures) c.in-Err.is))

pub connect_by-requires : goal.connect_by-requires
unfolding state_of
connect_by-requires c =
    let a = c.args in
    let d = asking_done (get_or a.t.now 0 0) a.caller a.node a.s a.n (passes (rw c.size-size.ensures.value at c.check_asking.ensures) c.in_default.is) in
    let from = in-limit a.t.now c.requires.t_value d.0 in
    let to = in-limit a.t.now c.requires.t_value d.3 in
    record { t_len = c.requires.t_len; caller_lt_node_limit = omega arith; way_lt_node_limit = omega arith; host_lt_node_limit = rw c.host_of.ensures (in-limit a.t.now c.requires.t_value (host-here a.t.now c.requires.t_value a.node a.s a.n _ ((ap looked_up (sym c.in-Ok.is) ∙ c.look.ensures)))) }

pub connect-requires : goal.connect-requires
unfolding state_of
connect-requires c =
    let a = c.args in
    let d = asking_done (get_or a.t.now 0 0) a.caller a.node a.s a.n (passes (rw c.size-size.ensures.value at c.check_asking.ensures) c.in_default.is) in
    let from = in-limit a.t.now c.requires.t_value d.0 in
    let to = in-limit a.t.now c.requires.t_value d.3 in
    record { t_len = c.requires.t_len; a_lt_node_limit = omega arith; b_lt_node_limit = omega arith }

pub returns-in-Ok : goal.returns-in-Ok
unfolding state_of
returns-in-Ok c =
    let a = c.args in
    let t = c.args.t.now in
    let d = (let a = c.args in asking_done (get_or a.t.now 0 0) a.caller a.node a.s a.n (passes (rw c.size-size.ensures.value at c.check_asking.ensures) c.in_default.is)) in
    rw c.said.ensures (send_at-told t c.requires.t_value a.caller a.node a.s a.n (rw c.size-size.ensures.value at c.check_asking.ensures) c.in_default.is
    (Ok (c.in-Ok.pid, c.in-Ok.why)) ((ap looked_up (sym c.in-Ok.is) ∙ c.look.ensures)) c.connect_by.new.t
    (rw c.host_of.ensures at (c.connect_by.ensures (here t) (base t c.requires.t_value) (regular t c.requires.t_value) (omega arith) (omega arith))))

pub returns-in-Err-look : goal.returns-in-Err-look
unfolding state_of
returns-in-Err-look c =
    let a = c.args in
    let t = c.args.t.now in
    rw c.said-in-Err-look.ensures (send_at-told t c.requires.t_value a.caller a.node a.s a.n (rw c.size-size.ensures.value at c.check_asking.ensures) c.in_default.is
    (Err c.in-Err-look.why) (ap looked_up (sym c.in-Err-look.is) ∙ c.look.ensures) c.connect.new.t
    (c.connect.ensures (here t) (base t c.requires.t_value) (regular t c.requires.t_value)))
