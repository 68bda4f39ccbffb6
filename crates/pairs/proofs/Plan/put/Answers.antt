-- `Plan::put` meets its contract: number and set are written side by side. Assumes nothing.
use Rattle.std.proofs.Common.{arith}
use Rattle.pairs.specs.Plans.{paired-length, paired-set}
use Rattle.pairs.proofs.Plan.put.Goals as goal

pub returns-clause-room : goal.returns-clause-room
returns-clause-room c = rw (← c.self.view_is) (omega (arith, paired-length c.self.inside.numbers c.self.inside.sets (omega arith)))

pub returns-clause-written : goal.returns-clause-written
returns-clause-written c = rw (← c.self.view_is) (paired-set c.self.inside.numbers c.self.inside.sets _ _ _ (omega arith))
