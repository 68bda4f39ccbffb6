-- `nodes::inter` meets its contract: it is the word's `&`.
-- Assumes nothing.
use borrow.Author.Rules.{rules}
use Rattle.nodes.specs.Sets.{inter}
use Rattle.nodes.proofs.inter.Goals as goal

pub returns : goal.returns
unfolding inter
returns c = search rules
