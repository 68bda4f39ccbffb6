-- `sgroup::registered_names` meets its contract: on a sound table its step does, and any other run is refused.
-- Assumes nothing.
use Rattle.commands.specs.declared.Command.TheVariants.{RegisteredNames}
use Rattle.sgroup.specs.NoTable.{sound_run, lists-no_table}
use Rattle.sgroup.proofs.registered_names.Goals as goal

pub returns-in-Err : goal.returns-in-Err
returns-in-Err c = rw c.refused.ensures (lists-no_table c.args.table.now c.check.ensures c.in-Err.is c.args.caller (RegisteredNames c.args.s) c.args.out.now)

pub invariant_of-registered_names : goal.invariant_of-registered_names
invariant_of-registered_names c =
    let q = sound_run c.args.table.now c.check.ensures c.in_default.is in
    record { sized = q.t_len; fit = q.t_value }
