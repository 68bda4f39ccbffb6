-- `sound_table::SoundTable::count` meets its contract: a sound table has at most 32 s_groups. Assumes nothing.
use Rattle.sound_table.specs.Here.{groups_few}
use Rattle.sound_table.proofs.SoundTable.count.Goals as goal

pub returns-clause-few : goal.returns-clause-few
returns-clause-few c = groups_few c.args.self.words.now c.args.self.fit
