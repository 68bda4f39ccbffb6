-- `indexed::names_of` meets its contract: refused for its table or index, or what is read of the pid. Assumes nothing.
use Rattle.inputs.proofs.Reasons.{passes}
use Rattle.indexed.specs.Reasons.{index_there, read-refused}
use Rattle.indexed.proofs.names_of.Goals as goal

pub returns-in-Err : goal.returns-in-Err
returns-in-Err c =
    let a = c.args in
    read-refused a.table.now a.index.now a.p a.out.now c.check_index.ensures c.in-Err.is c.refused.ensures

pub names_of-requires : goal.names_of-requires
names_of-requires c = record { index_value = (index_there c.args.table.now c.args.index.now (passes c.check_index.ensures c.in_default.is)).index_value }
