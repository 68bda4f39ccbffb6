-- `nodes::subset` meets its contract: it compares as the definition does.
-- Assumes nothing.
use borrow.Author.Rules.{rules}
use Rattle.nodes.specs.Sets.{inter}
use Rattle.nodes.proofs.subset.Goals as goal

pub returns : goal.returns
unfolding inter
returns c = search rules
