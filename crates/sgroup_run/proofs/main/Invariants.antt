-- The loop of `sgroup_run::main`: each run goes on by a line at least, so fewer bytes are left.
use Rattle.std.proofs.Common.{length, ◌-◌, ◌≡◌}
use Rattle.sgroup_run.proofs.main.Given as goal

abbrev pub invariant-loop-at : goal.invariant-loop-at
invariant-loop-at l = (length l.table ≡ length l.initial.table) × (length l.out ≡ length l.initial.out)

abbrev pub decreases-loop-at : goal.decreases-loop-at
decreases-loop-at l = l.n - l.at
