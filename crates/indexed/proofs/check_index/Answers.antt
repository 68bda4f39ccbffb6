-- `indexed::check_index` meets its contract: the table's check, then whether the index is right. Assumes nothing.
use Rattle.std.proofs.Common.{rules}
use Rattle.std.specs.Prelude.{Err}
use mathlib.Core.Path.{◌≡◌, sym, ap, ◌∙◌}
use Rattle.inputs.specs.Judge.{checked}
use Rattle.inputs.proofs.Reasons.{passes}
use Rattle.indexed.specs.Reasons.{table-verdict, table_sound, refused-after, index-right, index-wrong}
use Rattle.indexed.proofs.check_index.Goals as goal

pub returns-in_err-check : goal.returns-in_err-check
returns-in_err-check c =
    let answered : c.from_residual.result ≡ Err c.in_err-check.field-0.0 = search rules in
    answered ∙ refused-after c.args.table.now c.args.index.now (c.check.ensures ∙ table-verdict c.args.table.now) c.in_err-check.was

pub invariant_of-is_right : goal.invariant_of-is_right
invariant_of-is_right c = let both = table_sound c.args.table.now (passes (c.check.ensures ∙ table-verdict c.args.table.now) c.in_ok-check.was) in record { sized = both.0; fit = both.1 }

pub returns-then-is_right : goal.returns-then-is_right
returns-then-is_right c = ap checked (index-right c.args.table.now c.args.index.now (passes (c.check.ensures ∙ table-verdict c.args.table.now) c.in_ok-check.was) (sym c.is_right.ensures ∙ c.if-is_right.true))

pub returns : goal.returns
returns c = ap checked (index-wrong c.args.table.now c.args.index.now (passes (c.check.ensures ∙ table-verdict c.args.table.now) c.in_ok-check.was) (sym c.is_right.ensures ∙ c.if-is_right.false))
