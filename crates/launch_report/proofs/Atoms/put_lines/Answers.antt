-- `launch_report::Atoms::put_lines` meets its contract: the first line, and what the table has.
-- Assumes nothing.
use Rattle.std.proofs.Common.{sym, ◌∙◌}
use Rattle.print.specs.Puts.{puts_next, puts_as}
use Rattle.launch_report.specs.Launched.{launched_lines}
use Rattle.launch_report.specs.Telling.{table-long, unsound-lines}
use Rattle.launch_report.proofs.Atoms.put_lines.Goals as goal

pub invariant_of-table : goal.invariant_of-table
invariant_of-table c =
    let ok = sym c.is_sound.ensures ∙ c.if-is_sound.true in
    record { sized = table-long c.args.words.now ok; fit = ok }

pub returns-then-is_sound : goal.returns-then-is_sound
unfolding launched_lines
returns-then-is_sound c = puts_next c.put_bytes.ensures (puts_next c.put_groups.ensures c.put_own.ensures)

pub returns-else-is_sound : goal.returns-else-is_sound
unfolding launched_lines
returns-else-is_sound c =
    puts_next c.put_bytes.ensures (puts_as c.put_bytes-else-is_sound.ensures (sym (unsound-lines _ _ _ _ (sym c.is_sound.ensures ∙ c.if-is_sound.false))))
