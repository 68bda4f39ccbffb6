-- `print::Printer::put_value` meets its contract: in the arms with two numbers, one behind the other.
-- Assumes nothing.
use Rattle.print.specs.Puts.{puts_next}
use Rattle.print.specs.Decimals.{spaced_next}
use Rattle.print.proofs.Printer.put_value.Goals as goal

pub returns-in-Grouped : goal.returns-in-Grouped
returns-in-Grouped c =
    rw c.in-Grouped.is (puts_next c.put_bytes-in-Grouped.ensures (spaced_next _ _ c.put_spaced-in-Grouped.ensures c.put_spaced-in-Grouped-2.ensures))

pub returns-in-Nodes : goal.returns-in-Nodes
returns-in-Nodes c = rw c.in-Nodes.is (puts_next c.put_bytes-in-Nodes.ensures (spaced_next _ _ c.put_spaced-in-Nodes.ensures c.put_spaced-in-Nodes-2.ensures))
