-- `launch_refusals::put_refusal` meets its contract.
-- Assumes nothing.
use Rattle.std.proofs.Common.{ap, ◌∙◌, ◌-◌, arith, rules, length}
use Rattle.print.specs.Sheets.{put}
use Rattle.refusal_head.specs.Begins.{same_head, said-begins}
use Rattle.print.specs.Putting.{stays_within}
use Rattle.launch_refusals.proofs.put_refusal.Goals as goal
use Rattle.launch_refusals.proofs.put_refusal.Goals.{then-slip, else-slip}

pub slice_bounds-put_slip-count : goal.slice_bounds-put_slip-count
slice_bounds-put_slip-count c = omega (arith, stays_within _ 0 _ _ _ (omega arith) c.put_head-p.ensures)

pub slice_bounds-put_slip-start : goal.slice_bounds-put_slip-start
slice_bounds-put_slip-start c = omega (arith, stays_within _ 0 _ _ _ (omega arith) c.put_head-p.ensures)

pub slice_bounds-put_why-count : goal.slice_bounds-put_why-count
slice_bounds-put_why-count c = omega (arith, stays_within _ 0 _ _ _ (omega arith) c.put_head-p.ensures)

pub slice_bounds-put_why-start : goal.slice_bounds-put_why-start
slice_bounds-put_why-start c = omega (arith, stays_within _ 0 _ _ _ (omega arith) c.put_head-p.ensures)

pub overflow_sub-out : goal.overflow_sub-out
overflow_sub-out c = omega (arith, stays_within _ 0 _ _ _ (omega arith) c.put_head-p.ensures)

pub returns : goal.returns
returns c =
    let h = c.put_head-p in
    let e = h.ensures ∙ ap (put _) (same_head _ _ _ _ _ _ _ c.is_slip-slip.ensures c.front-text.ensures) in
    elim c.if-slip.branch [
      | then-slip w ↦ rw w.out-is (said-begins _ h.new.out h.result _ e w.put_slip-why.new.out (length h.new.out - h.result) _ (omega arith) (search rules))
      | else-slip w ↦ rw w.out-is (said-begins _ h.new.out h.result _ e w.put_why-why.new.out (length h.new.out - h.result) _ (omega arith) (search rules))
    ]
