-- `sgroup_who::say` is safe and ends: what was put lies within the run.
use Rattle.std.proofs.Common.{arith, sym, length-take-le}
use Rattle.print.specs.Putting.{stays_within}
use Rattle.sgroup_who.proofs.say.Goals as goal

pub slice_bounds-write_all-end : goal.slice_bounds-write_all-end
slice_bounds-write_all-end c = stays_within _ _ _ _ _ (omega arith) c.put_report-len.ensures

pub slice_bounds-write_all-end-2 : goal.slice_bounds-write_all-end-2
slice_bounds-write_all-end-2 c = sym (length-take-le _ _ (stays_within _ _ _ _ _ (omega arith) c.put_report-len.ensures))
