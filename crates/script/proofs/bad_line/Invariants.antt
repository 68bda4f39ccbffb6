-- `script::bad_line` meets its contract: the first bad line of all is the first of those that are left.
-- Assumes nothing.
use mathlib.Core.Path.{◌≡◌}
use Prim.Native.Nat.{◌≤◌, ◌+◌, ◌-◌}
use lib.ListN.{length, drop}
use Rattle.script.specs.Scripts.{lines_of}
use Rattle.script.specs.BadLines.{first_bad}
use Rattle.script.proofs.bad_line.Given as goal

abbrev pub invariant-loop-from : goal.invariant-loop-from
invariant-loop-from l = (l.from ≤ length l.script) × (l.number ≤ l.from + 1) × (first_bad 1 (lines_of l.script) ≡ first_bad l.number (lines_of (drop l.from l.script)))

abbrev pub decreases-loop-from : goal.decreases-loop-from
decreases-loop-from l = length l.script - l.from
