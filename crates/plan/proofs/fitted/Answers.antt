-- `plan::fitted` meets its contract: between two groups, what is kept of those before is counted, known and written. Assumes nothing.
use mathlib.Core.Path.{◌≡◌, ap, sym, ◌∙◌}
use mathlib.Core.List.{map}
use native.Mathlib.Omega.{arith}
use Rattle.std.proofs.Common.{Some, None, false, inl}
use Rattle.std.proofs.lemmas.Grind.{common_steps}
use Rattle.std.specs.Iterator.Adapters.{enumerate_count, enumerate_source}
use Rattle.duplicates.specs.Next.{group_of}
use Rattle.duplicates.specs.Along.{places_left, groups-placed, places-few, place-left}
use Rattle.plan.specs.Looked.{woven-room, entered-told}
use Rattle.plan.specs.Turns.{taken_none, taken-left, taken-unknown, taken_made, taken-too-many, taken-fits}
use Rattle.plan.proofs.fitted.Goals as goal

pub loop-count-init-derived : goal.loop-count-init-derived
loop-count-init-derived c =
    let i = c.into_iter-count-iterator.ensures.into_iter_gives in
    let l = ap places_left c.enumerate-count-items.ensures.source ∙ c.groups_at.ensures in
    ((tt, tt, inl (rw (i, l, c.enumerate-count-items.ensures.count) (omega (arith, places-few c.args.text.now c.args.g false)))), tt)

pub loop-count-init : goal.loop-count-init
loop-count-init c =
    let i = c.into_iter-count-iterator.ensures.into_iter_gives in
    let n = ap enumerate_count i ∙ c.enumerate-count-items.ensures.count in
    let l = ap (λ s. places_left (enumerate_source s)) i ∙ ap places_left c.enumerate-count-items.ensures.source ∙ c.groups_at.ensures in
    (omega arith, rw (n, l), rw (n, l, sym (groups-placed c.args.text.now c.args.g)) (taken_none _ _ _ _))

pub slice_bounds-name-count : goal.slice_bounds-name-count
slice_bounds-name-count c =
    (place-left c.args.text.now _ c.args.g false _ _ (sym c.loop-count.invariant.1 ∙ c.in-Some.ensures.steps.0)).1.0

pub slice_bounds-name-start : goal.slice_bounds-name-start
slice_bounds-name-start c =
    let p = place-left c.args.text.now _ c.args.g false _ _ (sym c.loop-count.invariant.1 ∙ c.in-Some.ensures.steps.0) in
    p.1.0

pub slice_bounds-name-end : goal.slice_bounds-name-end
slice_bounds-name-end c =
    let p = place-left c.args.text.now _ c.args.g false _ _ (sym c.loop-count.invariant.1 ∙ c.in-Some.ensures.steps.0) in
    p.1.1

pub returns-in_err-next-clause-value : goal.returns-in_err-next-clause-value
returns-in_err-next-clause-value c =
    let step = c.in-Some.ensures.steps in
    let r = ap (map (group_of c.args.text.now)) step.0 in
    let e : c.enter.result ≡ None = grind (arith, common_steps) in
    let u = taken-unknown _ _ _ _ _ _ _ c.loop-count.invariant.2 _ _ r _ (rw (sym step.1) c.made.ensures) c.if-made.true (entered-told _ _ _ _ (sym e ∙ c.enter.ensures)) in
    grind (arith, common_steps, u)

pub loop-count-preserved-then-made : goal.loop-count-preserved-then-made
loop-count-preserved-then-made c =
    let step = c.in-Some.ensures.steps in
    let r = ap (map (group_of c.args.text.now)) step.0 in
    let p = place-left c.args.text.now _ c.args.g false _ _ (sym c.loop-count.invariant.1 ∙ step.0) in
    let e : c.enter.result ≡ Some c.in_ok-next.next = grind (arith, common_steps) in
    let u = entered-told _ _ _ _ (sym e ∙ c.enter.ensures) in (
      omega (arith, step.2),
      rw step.2 (sym p.2),
      rw step.2 (taken_made _ _ _ _ _ _ _ c.loop-count.invariant.2 _ _ r _ (rw (sym step.1) c.made.ensures) c.if-made.true u.0 _ _ u.1 u.2 _ (λ l. woven-room _ (c.put.ensures.room l)) c.put.ensures.written),
    )

pub loop-count-preserved : goal.loop-count-preserved
loop-count-preserved c =
    let step = c.in-Some.ensures.steps in
    let r = ap (map (group_of c.args.text.now)) step.0 in
    let p = place-left c.args.text.now _ c.args.g false _ _ (sym c.loop-count.invariant.1 ∙ step.0) in (
      omega (arith, step.2),
      rw step.2 (sym p.2),
      rw step.2 (taken-left _ _ _ _ _ _ _ c.loop-count.invariant.2 _ _ r _ (rw (sym step.1) c.made.ensures) c.if-made.false),
    )

pub returns-then-k-gt-GROUP_LIMIT-clause-value : goal.returns-then-k-gt-GROUP_LIMIT-clause-value
returns-then-k-gt-GROUP_LIMIT-clause-value c =
    sym (taken-too-many _ _ _ _ _ _ _ c.loop-count.invariant.2 (ap (map (group_of c.args.text.now)) c.in-None.ensures.steps.0.0) c.if-k-gt-GROUP_LIMIT.true)

pub returns-clause-value : goal.returns-clause-value
returns-clause-value c =
    sym (taken-fits _ _ _ _ _ _ _ c.loop-count.invariant.2 (ap (map (group_of c.args.text.now)) c.in-None.ensures.steps.0.0) c.if-k-gt-GROUP_LIMIT.false)
