-- `nodes::with` meets its contract: `1 << i` is the node i.
-- Assumes nothing.
use borrow.Author.Tests.{lt-ltb}
use mathlib.Core.Path.{ap}
use Rattle.nodes.specs.Sets.{node_limit, union}
use Rattle.nodes.proofs.Words.{shl_one}
use Rattle.nodes.proofs.with.Goals as goal

pub returns-then-i-lt-NODE_LIMIT : goal.returns-then-i-lt-NODE_LIMIT
unfolding union
returns-then-i-lt-NODE_LIMIT c =
    let i = c.args.i in
    rw (lt-ltb i node_limit c.if-i-lt-NODE_LIMIT.true) (ap (union c.args.set) (shl_one i c.if-i-lt-NODE_LIMIT.true))
