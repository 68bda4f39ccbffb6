-- `gathering::gather` meets its contract: between two groups, those passed are in the book, told apart and written. Assumes nothing.
use Rattle.std.proofs.Common.{Ok, sym, ap, ◌∙◌, arith}
use Rattle.walk.specs.Unfold.{group-ahead, head-ahead, nodes-ahead}
use Rattle.gathering.specs.Turns.{taken_none, taken_more, taken_all}
use Rattle.gathering.proofs.Read.{was_read}
use Rattle.gathering.proofs.gather.Goals as goal

pub loop-end-init : goal.loop-end-init
loop-end-init c = taken_none _ _ _ _ _

pub returns-in-Closed : goal.returns-in-Closed
returns-in-Closed c =
    taken_all _ _ _ _ _ _ _ _ c.loop-end.invariant _
    (sym c.entry_at.ensures ∙ was_read _ _ c.ok.ensures.value c.in_ok-end.was ∙ ap Ok c.in-Closed.is)

pub slice_bounds-group_of-count : goal.slice_bounds-group_of-count
slice_bounds-group_of-count c = (head-ahead _ _ _ (sym c.head_at.ensures ∙ was_read _ _ c.ok-in-Group.ensures.value c.in_ok-name-in-Group.was)).1.0

pub slice_bounds-group_of-start : goal.slice_bounds-group_of-start
slice_bounds-group_of-start c = (head-ahead _ _ _ (sym c.head_at.ensures ∙ was_read _ _ c.ok-in-Group.ensures.value c.in_ok-name-in-Group.was)).1.0

pub slice_bounds-group_of-end : goal.slice_bounds-group_of-end
slice_bounds-group_of-end c = (head-ahead _ _ _ (sym c.head_at.ensures ∙ was_read _ _ c.ok-in-Group.ensures.value c.in_ok-name-in-Group.was)).1.1

pub loop-end-smaller : goal.loop-end-smaller
loop-end-smaller c =
    let opens = sym c.entry_at.ensures ∙ was_read _ _ c.ok.ensures.value c.in_ok-end.was ∙ ap Ok c.in-Group.is in
    let head = sym c.head_at.ensures ∙ was_read _ _ c.ok-in-Group.ensures.value c.in_ok-name-in-Group.was in
    let n = nodes-ahead _ _ _ c.in_ok-set-in-Group.ensures.past in
    omega (arith, (group-ahead _ _ _ _ opens).0, (head-ahead _ _ _ head).0.0, n.0, n.1)

pub loop-end-preserved : goal.loop-end-preserved
loop-end-preserved c =
    let opens = sym c.entry_at.ensures ∙ was_read _ _ c.ok.ensures.value c.in_ok-end.was ∙ ap Ok c.in-Group.is in
    let head = sym c.head_at.ensures ∙ was_read _ _ c.ok-in-Group.ensures.value c.in_ok-name-in-Group.was in
    rw c.put.ensures.written
    (taken_more _ _ _ _ _ _ _ _ c.loop-end.invariant _ _ opens head _ c.in_ok-number-in-Group.ensures c.if-k-ge-GROUP_LIMIT.false
    c.put.ensures.room (sym c.has.ensures ∙ c.if-has.false) _ c.in_ok-set-in-Group.ensures)
