-- `indexed::registered_names` meets its contract: refused for its table or index, or the command's step. Assumes nothing.
use Rattle.commands.specs.declared.Command.TheVariants.{RegisteredNames}
use Rattle.inputs.proofs.Reasons.{passes}
use Rattle.indexed.specs.Reasons.{index_there, tells-refused, tells-done}
use Rattle.indexed.proofs.registered_names.Goals as goal

pub returns-in-Err : goal.returns-in-Err
returns-in-Err c =
    let a = c.args in
    tells-refused a.table.now a.index.now a.caller (RegisteredNames a.s) a.out.now c.check_index.ensures c.in-Err.is c.refused.ensures

pub returns : goal.returns
returns c =
    let a = c.args in
    tells-done a.table.now a.index.now a.caller (RegisteredNames a.s) a.out.now c.check_index.ensures c.in_default.is c.registered_names.ensures
