-- `print::put_byte` meets its contract: by the test whether the place is within the run.
-- Assumes nothing.
use Rattle.std.proofs.Common.{lt-ltb, le-ltb}
use Rattle.std.proofs.Math.Seq.{set_out}
use Rattle.print.specs.Sheets.{sheet, put, put_one}
use Rattle.print.proofs.put_byte.Goals as goal

pub returns-then-at-out : goal.returns-then-at-out
unfolding sheet put put_one
returns-then-at-out c = rw (lt-ltb _ _ c.if-at-out.true)

pub returns : goal.returns
unfolding sheet put put_one
returns c = rw (le-ltb _ _ c.if-at-out.false, set_out _ _ _ c.if-at-out.false)
