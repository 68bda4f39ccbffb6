-- `Plan::get` meets its contract: number and set are read side by side. Assumes nothing.
use Rattle.std.proofs.Common.{sym, arith}
use Rattle.pairs.specs.Plans.{paired-length, paired-get}
use Rattle.pairs.proofs.Plan.get.Goals as goal

pub returns-clause-room : goal.returns-clause-room
returns-clause-room c = rw (← c.self.view_is) (omega (arith, paired-length c.self.inside.numbers c.self.inside.sets (omega arith)))

pub returns-clause-value : goal.returns-clause-value
returns-clause-value c = rw (← c.self.view_is) (sym (paired-get c.self.inside.numbers c.self.inside.sets _ (omega arith)))
