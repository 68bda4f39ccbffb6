-- The loop of `sgroup_who::run_script`: what all lines leave is what those that are left leave.
use Rattle.std.proofs.Common.{length, ◌-◌, ◌≡◌}
use Rattle.script.specs.Scripts.{lines_from, left}
use Rattle.sgroup_who.proofs.run_script.Given as goal

abbrev pub invariant-loop-at : goal.invariant-loop-at
invariant-loop-at l =
    (length l.table ≡ length l.initial.table) × (length l.lines ≡ length l.initial.lines) × (left l.table (lines_from l.script l.at) ≡ left l.initial.table (lines_from l.script 0))

abbrev pub decreases-loop-at : goal.decreases-loop-at
decreases-loop-at l = length l.script - l.at
