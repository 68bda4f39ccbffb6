-- `sgroup::call` meets its contract: on a sound table the step does, and any other run is refused.
-- Assumes nothing.
use Rattle.sgroup.specs.NoTable.{sound_run, steps-no_table}
use Rattle.sgroup.proofs.call.Goals as goal

pub returns-in-Err : goal.returns-in-Err
returns-in-Err c =
    let all = steps-no_table c.args.table.now c.check.ensures c.in-Err.is c.args.caller c.args.command c.args.out.now in
    rw c.refused.ensures (record { value = all.value; table_after = all.t_after; out_after = all.out_after })

pub step-requires : goal.step-requires
step-requires c = sound_run c.args.table.now c.check.ensures c.in_default.is
