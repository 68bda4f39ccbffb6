-- `sgroup::own_s_groups` meets its contract: on a sound table its step does, and any other run is refused.
-- Assumes nothing.
use Rattle.commands.specs.declared.Command.TheVariants.{OwnSGroups}
use Rattle.sgroup.specs.NoTable.{sound_run, lists-no_table}
use Rattle.sgroup.proofs.own_s_groups.Goals as goal

pub returns-in-Err : goal.returns-in-Err
returns-in-Err c = rw c.refused.ensures (lists-no_table c.args.table.now c.check.ensures c.in-Err.is c.args.caller OwnSGroups c.args.out.now)

pub invariant_of-own_s_groups : goal.invariant_of-own_s_groups
invariant_of-own_s_groups c =
    let q = sound_run c.args.table.now c.check.ensures c.in_default.is in
    record { sized = q.t_len; fit = q.t_value }
