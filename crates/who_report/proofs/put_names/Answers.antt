-- `who_report::put_names` meets its contract: by whether there is a name.
-- Assumes nothing.
use Rattle.who_report.specs.Who.{names_told}
use Rattle.who_report.proofs.put_names.Goals as goal

pub returns-then-is_empty : goal.returns-then-is_empty
unfolding names_told
returns-then-is_empty c = rw (← c.is_empty.ensures, c.if-is_empty.true) c.put_bytes.ensures

pub returns-else-is_empty : goal.returns-else-is_empty
unfolding names_told
returns-else-is_empty c = rw (← c.is_empty.ensures, c.if-is_empty.false) c.put_lines.ensures
