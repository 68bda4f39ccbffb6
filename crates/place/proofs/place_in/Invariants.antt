-- `place::place_in` meets its contract. The loop's invariant: the place is the place among the words from i on.
-- Assumes nothing.
use Rattle.std.proofs.Common.{◌≡◌, drop}
use Rattle.place.specs.Place.{place_in}
use Rattle.place.proofs.place_in.Given as goal

abbrev pub invariant-loop-i : goal.invariant-loop-i
invariant-loop-i l = place_in 0 l.s l.contents ≡ place_in l.i l.s (drop l.i l.contents)
