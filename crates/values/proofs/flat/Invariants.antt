-- `values::flat` meets its contract: up to the place of each turn there is no bracket, and each answer is a law of `Items`.
-- Assumes nothing.
use Prim.Native.Nat.{◌-◌}
use lib.ListN.{length}
use Rattle.values.specs.Items.{Along}
use Rattle.values.proofs.flat.Given as goal

abbrev pub invariant-loop-at : goal.invariant-loop-at
invariant-loop-at l = Along l.close l.text l.at l.opened l.j l.first

abbrev pub decreases-loop-at : goal.decreases-loop-at
decreases-loop-at l = length l.text - l.j
