-- `nodes::unions_at` meets its contract: the walk over what is left, from what is gathered, is the whole walk. Assumes nothing.
use Rattle.nodes.specs.Sets.{union, gather}
use Rattle.nodes.proofs.Walk.{walk_none, walk-rest}
use Rattle.nodes.proofs.unions_at.Goals as goal

pub loop-node-preserved : goal.loop-node-preserved
unfolding union
loop-node-preserved c =
    let step = c.in-Some.ensures.steps in
    let next = walk-rest (gather c.args.words.now) c.loop-node.node-iterator.0 c.loop-node.all step.some step.fits in
    cc (next, step.is, step.others)

pub returns : goal.returns
returns c = cc (walk_none (gather c.args.words.now) c.loop-node.all, c.in-None.ensures.steps.0)
