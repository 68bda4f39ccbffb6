-- `nodes::union` meets its contract: it is the word's `|`.
-- Assumes nothing.
use borrow.Author.Rules.{rules}
use Rattle.nodes.specs.Sets.{union}
use Rattle.nodes.proofs.union.Goals as goal

pub returns : goal.returns
unfolding union
returns c = search rules
