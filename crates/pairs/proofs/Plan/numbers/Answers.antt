-- `Plan::numbers` meets its contract: the first numbers are those of the first s_groups. Assumes nothing.
use Rattle.std.proofs.Common.{sym, arith}
use Rattle.pairs.specs.Plans.{paired-numbers}
use Rattle.pairs.proofs.Plan.numbers.Goals as goal

pub returns : goal.returns
returns c = rw (← c.self.view_is) (sym (paired-numbers c.self.inside.numbers c.self.inside.sets _ (omega arith)))
