-- `who_report::put_host` meets its contract: the words and the number, one behind the other.
-- Assumes nothing.
use Rattle.print.specs.Puts.{puts_next}
use Rattle.who_report.specs.Who.{host_words}
use Rattle.who_report.proofs.put_host.Goals as goal

pub returns : goal.returns
unfolding host_words
returns c = puts_next c.put_bytes.ensures (puts_next (rw c.host_of.ensures at c.put_number.ensures) c.put_bytes-2.ensures)
