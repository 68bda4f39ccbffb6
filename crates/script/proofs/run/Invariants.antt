-- `script::run` meets its contract: the run of all lines is the run of those that are left, on what the others left and printed.
-- Assumes nothing.
use mathlib.Core.Path.{◌≡◌}
use Prim.Native.Nat.{◌≤◌, ◌-◌}
use lib.ListN.{length}
use Rattle.print.specs.Sheets.{sheet}
use Rattle.turns.specs.Turns.{list_room}
use Rattle.script.specs.Scripts.{lines_from, runs}
use Rattle.script.proofs.run.Given as goal

abbrev pub invariant-loop-at : goal.invariant-loop-at
invariant-loop-at l =
    (length l.words ≡ list_room) × (l.printer.at ≤ length l.printer.bytes.now) × (l.printer.bytes.ghost_name ≡ l.initial.printer.bytes.ghost_name)
    × (length l.table ≡ length l.initial.table)
    × (runs (lines_from l.script l.from) l.from l.initial.table (sheet l.initial.printer.bytes.now 0) ≡ runs (lines_from l.script l.at) l.at l.table (sheet l.printer.bytes.now l.printer.at))

abbrev pub decreases-loop-at : goal.decreases-loop-at
decreases-loop-at l = length l.script - l.at
