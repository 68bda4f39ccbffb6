-- `print::put_bytes` meets its contract: all of s behind what was there is what is left of s behind what is there now.
-- Assumes nothing.
use Rattle.std.proofs.Common.{◌≡◌, drop}
use Rattle.print.specs.Sheets.{sheet, put}
use Rattle.print.proofs.put_bytes.Given as goal

abbrev pub invariant-loop-b : goal.invariant-loop-b
invariant-loop-b l = put (sheet l.initial.out l.at) l.s ≡ put (sheet l.out l.next) (drop l.b-index l.s)
