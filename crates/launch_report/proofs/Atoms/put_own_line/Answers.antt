-- `launch_report::Atoms::put_own_line` meets its contract: by whether the node is a member.
-- Assumes nothing.
use Rattle.print.specs.Puts.{puts_next, puts_none}
use Rattle.launch_report.specs.Launched.{own_line, own_part}
use Rattle.launch_report.proofs.Atoms.put_own_line.Goals as goal

pub returns-then-has : goal.returns-then-has
unfolding own_part own_line
returns-then-has c = rw (← c.has.ensures, c.if-has.true) (puts_next c.put_bytes.ensures (puts_next c.put_named.ensures c.put_bytes-then-has.ensures))

pub returns-else-has : goal.returns-else-has
unfolding own_part
returns-else-has c = rw (← c.has.ensures, c.if-has.false) puts_none
