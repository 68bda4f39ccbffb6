-- `who_report::put_name` meets its contract: the words and the numbers, one behind the other.
-- Assumes nothing.
use Rattle.print.specs.Puts.{puts_next}
use Rattle.who_report.specs.Who.{name_line}
use Rattle.who_report.proofs.put_name.Goals as goal

pub returns : goal.returns
unfolding name_line
returns c =
    puts_next c.put_bytes.ensures (puts_next c.put_number.ensures (puts_next c.put_bytes-2.ensures (puts_next c.put_number-2.ensures c.put_bytes-3.ensures)))
