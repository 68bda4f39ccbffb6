-- `print::Printer::put_spaced` meets its contract: the space, and the number behind it.
-- Assumes nothing.
use Rattle.std.proofs.Common.{append-nil}
use Rattle.print.specs.Printed.{spaced}
use Rattle.print.specs.Puts.{puts_next}
use Rattle.print.proofs.Printer.put_spaced.Goals as goal

pub returns : goal.returns
unfolding spaced
returns c = rw append-nil (puts_next c.put_byte.ensures c.put_number.ensures)
