-- `sound_table::SoundTable::size` meets its contract: a sound table has at most 64 nodes. Assumes nothing.
use Rattle.std.proofs.Common.{arith}
use Rattle.sound_table.specs.Here.{nodes-few}
use Rattle.sound_table.proofs.SoundTable.size.Goals as goal

pub overflow_cast-result : goal.overflow_cast-result
overflow_cast-result c = omega (arith, nodes-few c.args.self.words.now c.args.self.fit)

pub returns-clause-few : goal.returns-clause-few
returns-clause-few c = nodes-few c.args.self.words.now c.args.self.fit
