-- `nodes::has` meets its contract: a word has no node past 63.
-- Assumes nothing.
use borrow.Author.Tests.{le-ltb}
use mathlib.Core.Path.{sym, ◌∙◌}
use Rattle.nodes.specs.Sets.{node_limit}
use Rattle.nodes.proofs.SetLaws.{has_above}
use Rattle.nodes.proofs.has.Goals as goal

pub returns-else-i-lt-NODE_LIMIT : goal.returns-else-i-lt-NODE_LIMIT
returns-else-i-lt-NODE_LIMIT c =
    let set = c.args.set in
    let i = c.args.i in
    let past = c.if-i-lt-NODE_LIMIT.false in
    le-ltb i node_limit past ∙ sym (has_above set node_limit i c.ranges.set.fits past)
