-- `nodes::without` meets its contract: `1 << i` is the node i, and a node past 63 is no member.
-- Assumes nothing.
use borrow.Author.Rules.{rules}
use mathlib.Core.Path.{sym}
use Rattle.nodes.specs.Sets.{node_limit}
use Rattle.nodes.proofs.SetLaws.{has_above, without_other}
use Rattle.nodes.proofs.without.Goals as goal

pub returns-else-i-lt-NODE_LIMIT : goal.returns-else-i-lt-NODE_LIMIT
returns-else-i-lt-NODE_LIMIT c =
    let set = c.args.set in
    let i = c.args.i in
    sym (without_other set i (has_above set node_limit i c.ranges.set.fits (search rules)))
