-- `indexed::own_s_groups` meets its contract: refused for its table or index, or the command's step. Assumes nothing.
use Rattle.commands.specs.declared.Command.TheVariants.{OwnSGroups}
use Rattle.inputs.proofs.Reasons.{passes}
use Rattle.indexed.specs.Reasons.{index_there, tells-refused, tells-done}
use Rattle.indexed.proofs.own_s_groups.Goals as goal

pub returns-in-Err : goal.returns-in-Err
returns-in-Err c =
    let a = c.args in
    tells-refused a.table.now a.index.now a.caller OwnSGroups a.out.now c.check_index.ensures c.in-Err.is c.refused.ensures

pub returns : goal.returns
returns c =
    let a = c.args in
    tells-done a.table.now a.index.now a.caller OwnSGroups a.out.now c.check_index.ensures c.in_default.is c.own_s_groups.ensures
