-- `reaching::send` meets its contract: a refusal, or the caller connects with the pid's host.
-- Assumes nothing.
use native.Mathlib.Omega.{arith}
use lib.ListN.{get_or}
use Rattle.semantics.specs.Table.{state_of}
use Rattle.inputs.specs.Passed.{host_done}
use Rattle.inputs.proofs.Reasons.{passes}
use Rattle.place.specs.Sound.{here, regular, base}
use Rattle.returns.specs.Judged.{refused, step-send}
use Rattle.returns.specs.Shown.{says-kept}
use Rattle.reaching.specs.Reaching.{in-limit, send-told}
use Rattle.reaching.proofs.send.Goals as goal

pub returns-in-Err : goal.returns-in-Err
unfolding state_of
returns-in-Err c =
    rw c.refused.ensures (says-kept c.args.t.now c.requires.t_value
    (refused (step-send 0 c.args.caller (here c.args.t.now) c.args.p) (rw c.size-size.ensures.value at c.check_host.ensures) c.in-Err.is))

pub connect_by-requires : goal.connect_by-requires
unfolding state_of
connect_by-requires c =
    let t = c.args.t.now in
    let d = (let a = c.args in host_done (get_or a.t.now 0 0) a.caller a.p (passes (rw c.size-size.ensures.value at c.check_host.ensures) c.in_default.is)) in
    let from = in-limit t c.requires.t_value d.0 in
    let to = in-limit t c.requires.t_value d.1 in
    record { t_len = c.requires.t_len; caller_lt_node_limit = omega arith; way_lt_node_limit = omega arith; host_lt_node_limit = omega arith }

pub returns : goal.returns
unfolding state_of
returns c =
    let t = c.args.t.now in
    let d = (let a = c.args in host_done (get_or a.t.now 0 0) a.caller a.p (passes (rw c.size-size.ensures.value at c.check_host.ensures) c.in_default.is)) in
    rw c.said.ensures (send-told t c.requires.t_value c.args.caller c.args.p (rw c.size-size.ensures.value at c.check_host.ensures) c.in_default.is c.connect_by.new.t
    (rw c.host_of.ensures at (c.connect_by.ensures (here t) (base t c.requires.t_value) (regular t c.requires.t_value) d.0 d.0)))
