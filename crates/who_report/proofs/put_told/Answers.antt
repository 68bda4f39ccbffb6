-- `who_report::put_told` meets its contract: by whether the answer is a refusal.
-- Assumes nothing.
use Rattle.answers.specs.declared.Reason.TheVariants.{Done}
use Rattle.answers.specs.Numbers.{same-number}
use Rattle.print.specs.Puts.{puts_next}
use Rattle.who_report.specs.Who.{who_lines}
use Rattle.who_report.proofs.put_told.Goals as goal

pub returns-then-eq : goal.returns-then-eq
unfolding who_lines
returns-then-eq c = rw (← (same-number c.args.answer.reason Done), ← c.eq.ensures, c.if-eq.true) c.put_names.ensures

pub returns-else-eq : goal.returns-else-eq
unfolding who_lines
returns-else-eq c =
    rw (← (same-number c.args.answer.reason Done), ← c.eq.ensures, c.if-eq.false) (puts_next c.put_answer.ensures c.put_why.ensures)
