-- `Plan::sets` meets its contract: the first sets are those of the first s_groups. Assumes nothing.
use Rattle.std.proofs.Common.{sym, arith}
use Rattle.pairs.specs.Plans.{paired-sets}
use Rattle.pairs.proofs.Plan.sets.Goals as goal

pub returns : goal.returns
returns c = rw (← c.self.view_is) (sym (paired-sets c.self.inside.numbers c.self.inside.sets _ (omega arith)))
