-- `reaching::send_name` meets its contract: a refusal, or what the caller finds is told, and it connects with the host of a pid.
-- Assumes nothing.
use mathlib.Core.Path.{sym, ap, ◌∙◌}
use lib.ListN.{get_or}
use Rattle.semantics.specs.Table.{state_of}
use Rattle.std.specs.Prelude.{Ok, Err}
use Rattle.inputs.specs.Passed.{group_done, name_done}
use Rattle.names.specs.Looked.{looked_up}
use Rattle.inputs.proofs.Reasons.{passes}
use Rattle.place.specs.Sound.{here, regular, base}
use Rattle.returns.specs.Judged.{refused, step-send-name}
use Rattle.returns.specs.Shown.{says-kept}
use Rattle.reaching.specs.Reaching.{in-limit, host-here, send-name-told}
use Rattle.reaching.proofs.send_name.Goals as goal

pub returns-in-Err : goal.returns-in-Err
unfolding state_of
returns-in-Err c =
    let a = c.args in
    rw c.refused.ensures (says-kept a.t.now c.requires.t_value
    (refused (step-send-name 0 a.caller (here a.t.now) a.s a.n) (rw c.size-size.ensures.value at c.check_name.ensures) c.in-Err.is))

pub connect-requires : goal.connect-requires
unfolding state_of
connect-requires c =
    let a = c.args in
    let N = get_or a.t.now 0 0 in
    let d = group_done N a.caller a.s (name_done N a.caller a.s a.n (passes (rw c.size-size.ensures.value at c.check_name.ensures) c.in_default.is)).0 in
    record { t_len = c.requires.t_len; a_lt_node_limit = in-limit a.t.now c.requires.t_value d.0; b_lt_node_limit = rw c.host_of.ensures (in-limit a.t.now c.requires.t_value (host-here a.t.now c.requires.t_value a.caller a.s a.n _ ((ap looked_up (sym c.in-Ok.is) ∙ c.look.ensures)))) }

pub returns-in-Ok : goal.returns-in-Ok
unfolding state_of
returns-in-Ok c =
    let a = c.args in
    let t = c.args.t.now in
    rw c.said.ensures (send-name-told t c.requires.t_value a.caller a.s a.n (rw c.size-size.ensures.value at c.check_name.ensures) c.in_default.is
    (Ok (c.in-Ok.p, c.in-Ok.why)) ((ap looked_up (sym c.in-Ok.is) ∙ c.look.ensures)) c.connect.new.t
    (rw c.host_of.ensures at (c.connect.ensures (here t) (base t c.requires.t_value) (regular t c.requires.t_value))))

pub returns-in-Err-look : goal.returns-in-Err-look
unfolding state_of
returns-in-Err-look c =
    let a = c.args in
    let t = c.args.t.now in
    rw c.said-in-Err-look.ensures (send-name-told t c.requires.t_value a.caller a.s a.n (rw c.size-size.ensures.value at c.check_name.ensures) c.in_default.is
    (Err c.in-Err-look.why) (ap looked_up (sym c.in-Err-look.is) ∙ c.look.ensures) t (base t c.requires.t_value))
