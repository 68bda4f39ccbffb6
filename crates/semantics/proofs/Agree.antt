-- The test, the clauses of document 01 and the working invariant agree: a table passes exactly where the clauses hold, and that is where it
-- is the layout of a regular state. Assumes nothing.
use Rattle.std.specs.Prelude.{◌≡◌, refl, ◌↔◌, true, List, ℕ, eqb, length}
use Rattle.std.proofs.Common.{sym, ap, ◌∙◌, subst, eqb-true, eq-eqb}
use Rattle.std.proofs.Math.Bool.{and-eq-true_iff}
use Rattle.semantics.specs.Sizes.{table_words}
use Rattle.semantics.specs.State.{State}
use Rattle.semantics.specs.Table.{layout, state_of}
use Rattle.semantics.specs.Test.{same, sound}
use Rattle.semantics.specs.Soundness.{Sound}
use Rattle.semantics.specs.Regular.{Regular}
use Rattle.semantics.specs.WordsOfState.{Laid, laid, words_of}
use Rattle.semantics.proofs.RoundTrip.{sized, round_trip, length-layout}
use Rattle.semantics.specs.TestLaws.{same-iff, ◌also◌}
use Rattle.semantics.proofs.StateTest.{state-iff}
use Rattle.semantics.specs.WordByWord.{reads}
use Rattle.semantics.proofs.ClausesHold.{clauses-hold}
use Rattle.semantics.proofs.ClausesSuffice.{clauses-laid, clauses-state}

pub test-regular : (cap : ℕ) (t : List ℕ) → sound cap t ≡ true → Regular cap (state_of cap t) × (layout cap (state_of cap t) ≡ t) × (length t ≡ table_words cap)
unfolding sound
test-regular cap t h =
    let a = (and-eq-true_iff (eqb (length t) (table_words cap)) _).0 h in
    let b = (and-eq-true_iff (same (layout cap (state_of cap t)) t) _).0 a.1 in
    ((state-iff cap (state_of cap t)).0 b.1, (same-iff _ _).0 b.0, eqb-true _ _ a.0)

pub regular-test : (cap : ℕ) (st : State) → Regular cap st → sound cap (layout cap st) ≡ true
unfolding sound
regular-test cap st r =
    rw (round_trip cap st r) (eq-eqb _ _ (length-layout cap st (sized r)) also (same-iff (layout cap st) (layout cap st)).1 refl also (state-iff cap st).1 r)

-- the words of a table that passes are those of its state
pub test-laid : (cap : ℕ) (t : List ℕ) → sound cap t ≡ true → Laid cap (state_of cap t) t
test-laid cap t h =
    let q = test-regular cap t h in
    subst (λ (u : List ℕ). Laid cap (state_of cap t) u) q.1 (laid cap (state_of cap t) (sized q.0))

pub sound-iff : (cap : ℕ) (t : List ℕ) → (sound cap t ≡ true) ↔ Sound cap t
sound-iff cap t = (
  λ h. let q = test-regular cap t h in clauses-hold q.2 q.0 (reads (test-laid cap t h)),
  λ s. subst (λ (u : List ℕ). sound cap u ≡ true) (sym (words_of (clauses-laid s))) (regular-test cap (state_of cap t) (clauses-state s)),
)

-- two tables that pass and stand for the same state are equal
pub same-state-same-table : (cap : ℕ) (t u : List ℕ) → sound cap t ≡ true → sound cap u ≡ true → state_of cap t ≡ state_of cap u → t ≡ u
same-state-same-table cap t u h k e = sym (test-regular cap t h).1 ∙ ap (layout cap) e ∙ (test-regular cap u k).1
