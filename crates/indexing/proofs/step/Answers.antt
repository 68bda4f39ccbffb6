-- `indexing::step` meets its contract: the step gives answer, table and list; where it is done the rows are updated, and else they stay. Assumes nothing.
use mathlib.Core.Path.{sym, ◌∙◌}
use Rattle.answers.specs.Numbers.{same-number}
use Rattle.answers.specs.declared.Reason.TheVariants.{Done}
use Rattle.index_rows.specs.Paired.{Paired, rows_fit}
use Rattle.indexing.specs.Kept.{index-done, index_kept}
use Rattle.indexing.proofs.step.Goals as goal

pub update-requires : goal.update-requires
update-requires c =
    rows_fit ((let the : Paired c.args.t.now c.args.index.now = record { ok = c.requires.t_value; is = c.requires.index_value } in the)) c.names_total-count.result c.names_total-count.ensures

pub returns-then-eq : goal.returns-then-eq
returns-then-eq c =
    let a = c.args in
    let e = c.step-answer.ensures in record {
      value = e.value;
      t_after = e.t_after;
      out_after = e.out_after;
      index_after = index-done ((let the : Paired c.args.t.now c.args.index.now = record { ok = c.requires.t_value; is = c.requires.index_value } in the)) _ a.caller a.command c.update_of-change.ensures.fits e.value
          (sym (c.eq.ensures ∙ same-number c.step-answer.result.reason Done) ∙ c.if-eq.true) c.names_total-count.ensures c.update_of-change.ensures.value c.update.ensures;
    }

pub returns-else-eq : goal.returns-else-eq
returns-else-eq c =
    let a = c.args in
    let e = c.step-answer.ensures in
    record { value = e.value; t_after = e.t_after; out_after = e.out_after; index_after = index_kept ((let the : Paired c.args.t.now c.args.index.now = record { ok = c.requires.t_value; is = c.requires.index_value } in the)) _ a.caller a.command c.update_of-change.ensures.fits e.value (sym (c.eq.ensures ∙ same-number c.step-answer.result.reason Done) ∙ c.if-eq.false) }
