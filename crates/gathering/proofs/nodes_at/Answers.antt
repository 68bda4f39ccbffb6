-- `gathering::nodes_at` meets its contract: what the nodes from j on make of the set so far, all of them make. Assumes nothing.
use Rattle.std.proofs.Common.{Ok, sym, ap, ◌∙◌, arith}
use Rattle.walk.specs.Unfold.{node-ahead, last-ahead}
use Rattle.gathering.specs.Nodes.{noded-more, noded-last}
use Rattle.gathering.proofs.Read.{was_read}
use Rattle.gathering.proofs.nodes_at.Goals as goal

pub loop-node-init : goal.loop-node-init
loop-node-init c = λ s m h. h

pub slice_bounds-node_of-count : goal.slice_bounds-node_of-count
slice_bounds-node_of-count c = (node-ahead _ _ _ (sym c.node_at.ensures ∙ was_read _ _ c.ok.ensures.value c.in_ok-node.was ∙ ap Ok c.in-More.is)).1.0

pub slice_bounds-node_of-start : goal.slice_bounds-node_of-start
slice_bounds-node_of-start c = (node-ahead _ _ _ (sym c.node_at.ensures ∙ was_read _ _ c.ok.ensures.value c.in_ok-node.was ∙ ap Ok c.in-More.is)).1.0

pub slice_bounds-node_of-end : goal.slice_bounds-node_of-end
slice_bounds-node_of-end c = (node-ahead _ _ _ (sym c.node_at.ensures ∙ was_read _ _ c.ok.ensures.value c.in_ok-node.was ∙ ap Ok c.in-More.is)).1.1

pub loop-node-smaller : goal.loop-node-smaller
loop-node-smaller c =
    let n = node-ahead _ _ _ (sym c.node_at.ensures ∙ was_read _ _ c.ok.ensures.value c.in_ok-node.was ∙ ap Ok c.in-More.is) in
    omega (arith, n.0.0, n.0.1)

pub loop-node-preserved : goal.loop-node-preserved
loop-node-preserved c =
    let n = sym c.node_at.ensures ∙ was_read _ _ c.ok.ensures.value c.in_ok-node.was ∙ ap Ok c.in-More.is in
    λ s m h. c.loop-node.invariant s m (noded-more _ _ _ _ _ _ _ c.in_ok-i-in-More.ensures _ c.with-set.ensures n s m h)

pub slice_bounds-node_of-count-in-Last : goal.slice_bounds-node_of-count-in-Last
slice_bounds-node_of-count-in-Last c = (last-ahead _ _ _ (sym c.node_at.ensures ∙ was_read _ _ c.ok.ensures.value c.in_ok-node.was ∙ ap Ok c.in-Last.is)).1.0

pub slice_bounds-node_of-start-in-Last : goal.slice_bounds-node_of-start-in-Last
slice_bounds-node_of-start-in-Last c = (last-ahead _ _ _ (sym c.node_at.ensures ∙ was_read _ _ c.ok.ensures.value c.in_ok-node.was ∙ ap Ok c.in-Last.is)).1.0

pub slice_bounds-node_of-end-in-Last : goal.slice_bounds-node_of-end-in-Last
slice_bounds-node_of-end-in-Last c = (last-ahead _ _ _ (sym c.node_at.ensures ∙ was_read _ _ c.ok.ensures.value c.in_ok-node.was ∙ ap Ok c.in-Last.is)).1.1

pub returns-in-Last : goal.returns-in-Last
returns-in-Last c =
    let n = sym c.node_at.ensures ∙ was_read _ _ c.ok.ensures.value c.in_ok-node.was ∙ ap Ok c.in-Last.is in
    c.loop-node.invariant _ _ (noded-last _ _ _ _ _ _ _ c.in_ok-last-in-Last.ensures _ c.with.ensures n)
