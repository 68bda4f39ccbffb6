-- `nodes::diff` meets its contract: `!b` is all 64 nodes but those of b.
-- Assumes nothing.
use Rattle.nodes.specs.Sets.{inter}
use Rattle.nodes.proofs.Words.{inter-not}
use Rattle.nodes.proofs.diff.Goals as goal

pub returns : goal.returns
unfolding inter
returns c = inter-not c.args.a c.args.b c.ranges.a.fits c.ranges.b.fits
