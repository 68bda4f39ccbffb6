-- `rewiring::take_out` meets its contract: the words from i on are still to lose the set.
-- Assumes nothing.
use mathlib.Core.Path.{◌≡◌}
use Prim.Native.Nat.{ℕ}
use Rattle.nodes.specs.Sets.{diff}
use Rattle.semantics.specs.Steps.{mapi}
use Rattle.rewiring.specs.PlaceByPlace.{from}
use Rattle.rewiring.proofs.take_out.Given as goal

-- a word that has lost the nodes of m
abbrev pub lost : ℕ → ℕ → ℕ → ℕ
lost m i w = diff w m

abbrev pub invariant-loop-word : goal.invariant-loop-word
invariant-loop-word l = from (lost l.set) l.word-index l.words ≡ mapi (lost l.set) 0 l.initial.words
