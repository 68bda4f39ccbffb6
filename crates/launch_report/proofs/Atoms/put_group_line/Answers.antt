-- `launch_report::Atoms::put_group_line` meets its contract: the word, the number and the atom, the members, the newline.
-- Assumes nothing.
use Rattle.print.specs.Puts.{puts_next}
use Rattle.launch_report.specs.Launched.{group_line}
use Rattle.launch_report.proofs.Atoms.put_group_line.Goals as goal

pub returns : goal.returns
unfolding group_line
returns c = puts_next c.put_bytes.ensures (puts_next c.put_named.ensures (puts_next c.put_members.ensures c.put_bytes-2.ensures))
