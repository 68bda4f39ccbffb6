-- `Plan::new` meets its contract: all numbers and sets are 0. Assumes nothing.
use Rattle.semantics.specs.Sizes.{group_limit}
use Rattle.pairs.specs.Plans.{paired-replicate}
use Rattle.pairs.proofs.Plan.new.Goals as goal

pub returns : goal.returns
returns c = paired-replicate group_limit 0 0
