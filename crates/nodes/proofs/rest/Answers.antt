-- `nodes::rest` meets its contract: `w & (w - 1)` takes the lowest node out.
-- Assumes nothing.
use mathlib.Core.Path.{sym, ap, ◌∙◌}
use Rattle.nodes.specs.Sets.{inter, rest}
use Rattle.nodes.proofs.SetLaws.{diff-none}
use Rattle.nodes.proofs.LowestNode.{inter-pred}
use Rattle.nodes.proofs.rest.Goals as goal

pub returns-then-set-eq0 : goal.returns-then-set-eq0
returns-then-set-eq0 c = sym (ap rest c.if-set-eq0.true ∙ diff-none _)

pub returns-else-set-eq0 : goal.returns-else-set-eq0
unfolding inter
returns-else-set-eq0 c = inter-pred c.args.set c.ranges.set.fits
