-- `launch_expected::Trial::fitting` meets its contract: the set is that of the bytes tried.
-- Assumes nothing.
use Rattle.std.proofs.Common.{◌≡◌}
use Rattle.launch_expected.specs.Following.{following, Kept}
use Rattle.launch_expected.proofs.Trial.fitting.Given as goal

abbrev pub invariant-loop-i : goal.invariant-loop-i
invariant-loop-i l = record {
  kept : Kept l.initial.self l.self;
  found : l.set ≡ following l.initial.self.room.now l.initial.self.place l.bytes l.i;
}
