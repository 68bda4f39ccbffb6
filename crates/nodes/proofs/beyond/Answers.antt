-- `nodes::beyond` meets its contract: what is shifted down has a digit where the set has a node from n on.
-- Assumes nothing.
use borrow.Author.Tests.{le-ltb}
use mathlib.Core.Path.{sym, ◌∙◌}
use Rattle.nodes.specs.Sets.{node_limit}
use Rattle.nodes.proofs.Words.{shr-beyond, beyond-limit}
use Rattle.nodes.proofs.beyond.Goals as goal

pub returns-then-n-lt-NODE_LIMIT : goal.returns-then-n-lt-NODE_LIMIT
returns-then-n-lt-NODE_LIMIT c = shr-beyond c.args.set c.args.n

pub returns-else-n-lt-NODE_LIMIT : goal.returns-else-n-lt-NODE_LIMIT
returns-else-n-lt-NODE_LIMIT c =
    let n = c.args.n in
    let past = c.if-n-lt-NODE_LIMIT.false in
    le-ltb n node_limit past ∙ sym (beyond-limit c.args.set n c.ranges.set.fits past)
