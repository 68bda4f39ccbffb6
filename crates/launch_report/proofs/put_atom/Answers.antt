-- `launch_report::put_atom` meets its contract: the quote, the atom, the quote.
-- Assumes nothing.
use Rattle.print.specs.Puts.{puts_next}
use Rattle.launch_report.proofs.put_atom.Goals as goal

pub returns : goal.returns
returns c = puts_next c.put_bytes.ensures (puts_next c.put_bytes-2.ensures c.put_bytes-3.ensures)
