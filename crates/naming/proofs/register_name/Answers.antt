-- `naming::register_name` meets its contract: refused by its arguments, denied by its place, or settled in its s_group.
-- Assumes nothing.
use Rattle.semantics.specs.Table.{state_of}
use Rattle.returns.specs.Judged.{step-register}
use Rattle.place.specs.Sound.{here, regular, base}
use Rattle.returns.specs.Ends.{open-below, opened, says-refused, says-denied, says-settled}
use Rattle.naming.proofs.register_name.Goals as goal

pub returns-in-Err : goal.returns-in-Err
unfolding state_of
returns-in-Err c =
    rw c.refused.ensures (says-refused c.args.t.now c.requires.t_value (step-register 0 c.args.caller (here c.args.t.now) c.args.s c.args.n c.args.p) (rw c.size-size.ensures.value at c.check_pid.ensures)
    c.in-Err.is)

pub register_in-requires : goal.register_in-requires
register_in-requires c =
    record { t_len = c.requires.t_len; at_lt_group_limit = open-below c.args.t.now c.requires.t_value ((opened c.args.t.now c.requires.t_value c.args.caller c.args.s c.place_for.result c.place_for.ensures c.in-Ok.is)) }

pub returns-in-Ok : goal.returns-in-Ok
unfolding state_of
returns-in-Ok c =
    let t = c.args.t.now in
    says-settled t c.requires.t_value (step-register 0 c.args.caller (here c.args.t.now) c.args.s c.args.n c.args.p) (rw c.size-size.ensures.value at c.check_pid.ensures) c.in_default.is ((opened c.args.t.now c.requires.t_value c.args.caller c.args.s c.place_for.result c.place_for.ensures c.in-Ok.is))
    (c.register_in.ensures (here t) (base t c.requires.t_value) (regular t c.requires.t_value) c.args.s ((opened c.args.t.now c.requires.t_value c.args.caller c.args.s c.place_for.result c.place_for.ensures c.in-Ok.is)).seat)

pub returns-in-Err-place_for : goal.returns-in-Err-place_for
unfolding state_of
returns-in-Err-place_for c =
    rw c.said.ensures (says-denied c.args.t.now c.requires.t_value (step-register 0 c.args.caller (here c.args.t.now) c.args.s c.args.n c.args.p) (rw c.size-size.ensures.value at c.check_pid.ensures) c.in_default.is
    c.place_for.result c.place_for.ensures c.in-Err-place_for.is)
