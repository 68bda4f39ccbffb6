-- `pairs::among` meets its contract: after i turns it knows whether one of the first i numbers is this one.
-- Assumes nothing.
use Rattle.std.proofs.Common.{◌≡◌, take}
use Rattle.pairs.specs.Plans.{holds}
use Rattle.pairs.proofs.among.Given as goal

abbrev pub invariant-loop-other : goal.invariant-loop-other
invariant-loop-other l = l.held ≡ holds (take l.other-index l.numbers) l.number
