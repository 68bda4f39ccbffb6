-- `plain_book::fits` meets its contract: the lines passed are atoms, none of them twice. Assumes nothing.
use Prim.Native.Nat.{◌-◌}
use lib.ListN.{length}
use Rattle.plain_book.specs.Unindexed.{Read}
use Rattle.plain_book.proofs.fits.Given as goal

abbrev pub invariant-loop-at : goal.invariant-loop-at
invariant-loop-at l = Read l.book l.i l.at

abbrev pub decreases-loop-at : goal.decreases-loop-at
decreases-loop-at l = length l.book - l.at
