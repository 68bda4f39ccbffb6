-- `sgroup::whereis_name` meets its contract: on a sound table its step does, and any other run is refused.
-- Assumes nothing.
use Rattle.commands.specs.declared.Command.TheVariants.{WhereisName}
use Rattle.sgroup.specs.NoTable.{sound_run, says-no_table}
use Rattle.sgroup.proofs.whereis_name.Goals as goal

pub returns-in-Err : goal.returns-in-Err
returns-in-Err c = rw c.refused.ensures ((says-no_table c.args.table.now c.check.ensures c.in-Err.is 0 c.args.caller (WhereisName c.args.s c.args.n)).value)

pub invariant_of-whereis_name : goal.invariant_of-whereis_name
invariant_of-whereis_name c =
    let q = sound_run c.args.table.now c.check.ensures c.in_default.is in
    record { sized = q.t_len; fit = q.t_value }
