-- `rewiring::one_free_group` meets its contract: the set itself stands at each of its nodes.
-- Assumes nothing.
use borrow.Author.Rules.{rules}
use Rattle.semantics.specs.Steps.{one_free_group}
use Rattle.rewiring.proofs.one_free_group.Goals as goal

pub returns : goal.returns
unfolding one_free_group
returns c = search rules
