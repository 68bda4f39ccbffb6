-- `indexed::own_nodes` meets its contract: refused for its table or index, or the command's step. Assumes nothing.
use mathlib.Core.Path.{refl}
use mathlib.Core.List.{[]}
use Rattle.commands.specs.declared.Command.TheVariants.{OwnNodes}
use Rattle.inputs.proofs.Reasons.{passes}
use Rattle.indexed.specs.Reasons.{index_there, tells-refused, tells-done}
use Rattle.indexed.proofs.own_nodes.Goals as goal

pub returns-in-Err : goal.returns-in-Err
returns-in-Err c =
    let a = c.args in
    (tells-refused a.table.now a.index.now a.caller OwnNodes [] c.check_index.ensures c.in-Err.is c.refused.ensures).value

pub returns : goal.returns
returns c =
    let a = c.args in
    (tells-done a.table.now a.index.now a.caller OwnNodes [] c.check_index.ensures c.in_default.is (record { value = c.own_nodes.ensures; out_after = refl })).value
