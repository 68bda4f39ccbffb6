-- `Plan::has` meets its contract: the number is looked for among the first numbers. Assumes nothing.
use Rattle.std.proofs.Common.{sym, ◌∙◌, arith}
use Rattle.pairs.specs.Plans.{paired-seen}
use Rattle.pairs.proofs.Plan.has.Goals as goal

pub returns : goal.returns
returns c = rw (← c.self.view_is) (c.among.ensures ∙ sym (paired-seen c.self.inside.numbers c.self.inside.sets _ _ (omega arith)))
