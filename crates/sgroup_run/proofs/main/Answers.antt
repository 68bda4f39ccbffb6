-- `sgroup_run::main` is safe and ends: what a run prints lies within its room, and each run goes on by a line at least.
use Rattle.std.proofs.Common.{arith, sym, length-take-le}
use Rattle.script.specs.Whole.{run-within, run-moves}
use Rattle.sgroup_run.proofs.main.Goals as goal

pub slice_bounds-out-end : goal.slice_bounds-out-end
slice_bounds-out-end c = run-within _ _ _ _ _ _ _ _ c.run-ran.ensures

pub slice_bounds-write_all-end : goal.slice_bounds-write_all-end
slice_bounds-write_all-end c = sym (length-take-le _ _ (run-within _ _ _ _ _ _ _ _ c.run-ran.ensures))

pub loop-at-smaller : goal.loop-at-smaller
loop-at-smaller c =
    let m = run-moves _ _ _ _ _ _ _ _ _ c.run-ran.ensures c.in-Ok.ensures.read c.loop-at-test.true (omega arith) in
    omega arith
