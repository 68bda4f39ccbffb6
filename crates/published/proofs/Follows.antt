-- When a step of the library is a published step, where 000 has a rule for its reason; how tests and membership are taken one by one.
-- Assumes nothing.
use Rattle.std.specs.Prelude.{◌≡◌, refl, Bool, true, false, cond, [], ℕ}
use Rattle.std.proofs.Common.{sym, ◌∙◌}
use Rattle.std.proofs.lemmas.Bool.{false≢true}
use Rattle.std.proofs.Math.Option.{Option, none, some}
use Rattle.nodes.specs.Sets.{has}
use Rattle.semantics.specs.State.{Group, State}
use Rattle.semantics.specs.Steps as W
use Rattle.semantics.specs.Steps.{Result, Outcome, error, say, settle, apply, for_member}
use Rattle.answers.specs.declared.Value.{Value}
use Rattle.answers.specs.declared.Value.TheVariants.{Error}
use Rattle.answers.specs.declared.Reason.{Reason}
use Rattle.answers.specs.declared.Reason.TheVariants.{GroupUnknown, NotMember}
use Rattle.published.specs.Published as P
use Rattle.published.specs.Published.{of_some, SGroup, Step, gives}
use Rattle.published.proofs.SeenState.{seen, published, said}
use Rattle.published.specs.Refusals.{ruled}
use Rattle.published.proofs.GroupsSeen.{on_some}

-- the same state, value and list
pub record Follows (r : Result) (q : Step) : Type 0 where
  pub state : published r.next ≡ q.state
  pub said_is : said q.value ≡ (r.answer.value, r.list)

-- where 000 has a rule
abbrev pub Agrees : Result → Step → Type 0
Agrees r q = ruled r.answer.reason ≡ true → Follows r q

-- a choice of what gives a result: the result itself, or an outcome
module _ {A : Type 0} (F : A → Result) where
  -- a test that refuses
  pub by-refusal : (x : Bool) (a b : A) (q : Step) → ruled (F a).answer.reason ≡ false → (x ≡ false → Agrees (F b) q) → Agrees (F (cond x a b)) q
  by-refusal true a b q e k h = absurd (false≢true (sym e ∙ h))
  by-refusal false a b q e k h = k refl h

  -- a test that both make
  pub by_both : (x : Bool) (a b : A) (q t : Step) → (x ≡ true → Agrees (F a) q) → (x ≡ false → Agrees (F b) t) → Agrees (F (cond x a b)) (cond x q t)
  by_both true a b q t f g = f refl
  by_both false a b q t f g = g refl

module _ (st : State) (s i : ℕ) where
  -- an answer that changes nothing
  pub kept : (v : Value) (r : Reason) (v' : P.Value) → said v' ≡ (v, []) → Agrees (settle s (say v r) st) (gives v' (published st))
  unfolding apply
  kept v r v' e h = record { state = refl; said_is = e }

  -- for a member of the s_group
  pub by-member : (v : Value) (v' : P.Value) → said v' ≡ (v, []) → (o : Option Group) (k : Group → Outcome) (q : SGroup → Step)
      → ((g : Group) → o ≡ some g → Agrees (settle s (k g) st) (q (seen g)))
      → Agrees (settle s (W.as_member i v o k) st) (of_some (gives v' (published st)) (λ g. cond (g.nodes i) (q g) (gives v' (published st))) (on_some seen o))
  by-member v v' e none k q h = kept v GroupUnknown v' e
  by-member v v' e (some g) k q h =
      by_both (λ o. settle s o st) (has g.members i) (k g) (say v NotMember) (q (seen g)) (gives v' (published st)) (λ m. h g refl)
      (λ m. kept v NotMember v' e)

  -- the same, for a result
  pub for-one : (o : Option Group) (k : Group → Result) (q : SGroup → Step) → ((g : Group) → o ≡ some g → Agrees (k g) (q (seen g)))
      → Agrees (for_member i o st k) (of_some (gives P.Error (published st)) (λ g. cond (g.nodes i) (q g) (gives P.Error (published st))) (on_some seen o))
  for-one none k q h = λ m. record { state = refl; said_is = refl }
  for-one (some g) k q h =
      by_both (λ r. r) (has g.members i) (k g) (error NotMember st) (q (seen g)) (gives P.Error (published st)) (λ m. h g refl)
      (λ m n. record { state = refl; said_is = refl })
