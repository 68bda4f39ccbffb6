-- `indexed::call` meets its contract: refused for its table or index, or the step with the index. Assumes nothing.
use mathlib.Core.Path.{refl, sym, ap, ◌∙◌}
use Rattle.inputs.specs.Judge.{checked}
use Rattle.inputs.proofs.Reasons.{passes}
use Rattle.indexed.specs.Reasons.{table-verdict, table_sound, refused-after, index-right, index-wrong, index_there, gives_refused, gives-done}
use Rattle.indexed.proofs.call.Goals as goal

pub returns-in-Err : goal.returns-in-Err
returns-in-Err c =
    let a = c.args in
    gives_refused a.table.now a.index.now a.caller a.command a.out.now (refused-after a.table.now a.index.now (c.check.ensures ∙ table-verdict c.args.table.now) c.in-Err.is) refl c.refused.ensures

pub invariant_of-is_right : goal.invariant_of-is_right
invariant_of-is_right c = let both = table_sound c.args.table.now (passes (c.check.ensures ∙ table-verdict c.args.table.now) c.in_default.is) in record { sized = both.0; fit = both.1 }

pub step-requires : goal.step-requires
step-requires c =
    let a = c.args in
    index_there a.table.now a.index.now (sym (index-right a.table.now a.index.now (passes (c.check.ensures ∙ table-verdict c.args.table.now) c.in_default.is) (sym c.is_right.ensures ∙ c.if-is_right.true)))

pub returns-then-is_right : goal.returns-then-is_right
returns-then-is_right c =
    let a = c.args in
    let g = c.step.ensures in
    gives-done a.table.now a.index.now a.caller a.command a.out.now (ap checked (index-right a.table.now a.index.now (passes (c.check.ensures ∙ table-verdict c.args.table.now) c.in_default.is) (sym c.is_right.ensures ∙ c.if-is_right.true))) refl (record { value = g.value; table_after = g.t_after; index_after = g.index_after; out_after = g.out_after })

pub returns : goal.returns
returns c =
    let a = c.args in
    gives_refused a.table.now a.index.now a.caller a.command a.out.now (ap checked (index-wrong a.table.now a.index.now (passes (c.check.ensures ∙ table-verdict c.args.table.now) c.in_default.is) (sym c.is_right.ensures ∙ c.if-is_right.false))) refl c.refused-2.ensures
