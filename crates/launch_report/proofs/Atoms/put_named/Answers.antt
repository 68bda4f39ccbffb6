-- `launch_report::Atoms::put_named` meets its contract: the number, and the atom behind it if there is one.
-- Assumes nothing.
use Rattle.std.proofs.Common.{arith}
use Rattle.print.specs.Puts.{puts_next, puts_as}
use Rattle.launch_report.specs.Telling.{named-zero, named_some}
use Rattle.launch_report.proofs.Atoms.put_named.Goals as goal

pub returns-then-s-gt0 : goal.returns-then-s-gt0
returns-then-s-gt0 c = puts_as (puts_next c.put_number.ensures c.put_atom.ensures) (named_some _ _ _ _ (λ e. omega arith) c.line.ensures)

pub returns-else-s-gt0 : goal.returns-else-s-gt0
returns-else-s-gt0 c = puts_as c.put_number.ensures (named-zero _ _ _ (omega arith))
