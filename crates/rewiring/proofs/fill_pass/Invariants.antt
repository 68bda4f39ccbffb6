-- `rewiring::fill_pass` meets its contract: the words from i on are still to be chosen, and `left` has the digits of the set from i on.
-- Assumes nothing.
use mathlib.Core.Path.{◌≡◌}
use mathlib.Core.Bool.{cond}
use Prim.Native.Nat.{ℕ, ◌/◌, ◌^◌}
use Rattle.nodes.specs.Sets.{has}
use Rattle.semantics.specs.Steps.{mapi}
use Rattle.rewiring.specs.PlaceByPlace.{from}
use Rattle.rewiring.proofs.fill_pass.Given as goal

-- the word v at the nodes of m
abbrev pub put : ℕ → ℕ → ℕ → ℕ → ℕ
put m v i w = cond (has m i) v w

abbrev pub invariant-loop-old : goal.invariant-loop-old
invariant-loop-old l = record {
  digits : l.left ≡ l.set / 2 ^ l.old-index;
  goal : from (put l.set l.word) l.old-index l.words ≡ mapi (put l.set l.word) 0 l.initial.words;
}
