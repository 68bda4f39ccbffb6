-- The ascending list of a map: what holds of it by induction, how long it is, and what is looked up in it; and a word for each number.
-- Assumes nothing.
use Rattle.std.specs.Prelude.{◌≡◌, Bool, cond, eqb, leb, length, get_or}
use Rattle.std.proofs.Math.Path.{refl, subst}
use Rattle.std.proofs.Common.{sym, ap, ◌∙◌, ⊎_elim, arith, add-zero, add-suc, suc-add, zero-add, eq-eqb, ne_eqb, le-leb}
use Rattle.std.proofs.Math.Option.{Option, none, some}
use mathlib.Core.List.{List, [], ◌∷◌, ◌++◌}
use Prim.Native.Nat.{ℕ, zero, suc, ◌+◌, ◌≤◌, ◌<◌}
use Rattle.std.proofs.Math.ListN.{get_or-eq_default}
use Rattle.std.proofs.lemmas.Bool.{lt-leb}
use Rattle.nodes.specs.Bools.{by_lt, by_eq}
use Rattle.semantics.specs.Ranges.{held}
use Rattle.published.specs.Published.{Map, of_some}
use Rattle.published.specs.Seen.{how_many, chained}
use Rattle.published.proofs.Concatenated.{length-chained, in_turn, count-chained}
use Rattle.published.proofs.GroupsSeen.{on_some}

module _ {A B : Type 0} (make : ℕ → A → B) (m : Map A) where
  -- what m has at the n numbers from k on
  abbrev pub gather : ℕ → ℕ → List B
  gather n k = chained n k (λ s. of_some [] (λ a. make s a ∷ []) (m s))

  -- what holds from the end downwards, one number at a time
  pub gather-ind : (P : ℕ → List B → Type 0) (end : ℕ) → P end []
      → ((k : ℕ) (l : List B) → m k ≡ none → P (suc k) l → P k l)
      → ((k : ℕ) (a : A) (l : List B) → m k ≡ some a → P (suc k) l → P k (make k a ∷ l)) → (n k : ℕ) → k + n ≡ end → P k (gather n k)
  unfolding chained
  gather-ind P end z f g zero k e = subst (λ (j : ℕ). P j []) (sym (sym (add-zero k) ∙ e)) z
  gather-ind P end z f g (suc n) k e = go (m k) refl (gather-ind P end z f g n (suc k) (omega arith))
    where
      go : (o : Option A) → m k ≡ o → P (suc k) (gather n (suc k)) → P k (of_some [] (λ a. make k a ∷ []) o ++ gather n (suc k))
      go none q ih = f k (gather n (suc k)) q ih
      go (some a) q ih = g k a (gather n (suc k)) q ih

  pub length-gather : (n : ℕ) → length (gather n 0) ≡ how_many n (λ s. held (m s))
  length-gather n =
      length-chained n 0 (λ s. of_some [] (λ a. make s a ∷ []) (m s)) (in_turn (λ s. held (m s))) (λ s. one s (m s)) ∙ sym (count-chained n (λ s. held (m s)))
    where
      one : (s : ℕ) (o : Option A) → length (of_some [] (λ a. make s a ∷ []) o) ≡ length (cond (held o) (s ∷ []) [])
      one s none = refl
      one s (some a) = refl

  -- a lookup by key
  module _ {C : Type 0} (key : B → ℕ) (val : B → C) (look : ℕ → List B → Option C)
      (nil : (s : ℕ) → look s [] ≡ none) (cons : (s : ℕ) (x : B) (xs : List B) → look s (x ∷ xs) ≡ cond (eqb (key x) s) (some (val x)) (look s xs))
      (keyed : (k : ℕ) (a : A) → m k ≡ some a → key (make k a) ≡ k) (end : ℕ) (bounded : (s : ℕ) (a : A) → m s ≡ some a → s < end) where
    -- from k on it finds what m has
    abbrev From : ℕ → List B → Type 0
    From k l = (s : ℕ) → look s l ≡ cond (leb k s) (on_some (λ a. val (make s a)) (m s)) none

    none-past : From end []
    none-past s = nil s ∙ ⊎_elim (λ (l : s < end). rw (lt-leb end s l)) (λ (l : end ≤ s). rw (le-leb end s l) (out (m s) refl l)) (by_lt s end)
      where
        out : (o : Option A) → m s ≡ o → end ≤ s → ◌≡◌ {A = Option C} none (on_some (λ a. val (make s a)) o)
        out none e l = refl
        out (some a) e l = absurd (omega (arith, bounded s a e))

    -- past k nothing changes
    past : (k s : ℕ) → (k ≡ s → ⊥) → leb (suc k) s ≡ leb k s
    past k s n = ⊎_elim
        (λ (l : k < s). le-leb (suc k) s l ∙ sym (le-leb k s (omega arith)))
        (λ (l : s ≤ k). lt-leb (suc k) s (omega arith) ∙ sym (lt-leb k s (omega arith)))
        (by_lt k s)

    pub looked : (s : ℕ) → look s (gather end 0) ≡ on_some (λ a. val (make s a)) (m s)
    looked s =
        gather-ind From end none-past
        (λ k l q ih t. ih t ∙ ⊎_elim
        (λ (e : k ≡ t). rw (lt-leb (suc k) t (omega arith), le-leb k t (omega arith)) (sym (ap (on_some (λ a. val (make t a))) (ap m (sym e) ∙ q))))
        (λ (e : k ≡ t → ⊥). rw (past k t e))
        (by_eq k t))
        (λ k a l q ih t. cons t (make k a) l ∙ ⊎_elim
        (λ (e : k ≡ t). ap (λ (x : Bool). cond x (some (val (make k a))) (look t l)) (eq-eqb (key (make k a)) t (keyed k a q ∙ e))
        ∙ ap (λ (u : ℕ). some (val (make u a))) e ∙ sym (rw (le-leb k t (omega arith)) (ap (on_some (λ b. val (make t b))) (ap m (sym e) ∙ q))))
        (λ (e : k ≡ t → ⊥). ap (λ (x : Bool). cond x (some (val (make k a))) (look t l)) (ne_eqb (key (make k a)) t (λ z. e (sym (keyed k a q) ∙ z)))
        ∙ ih t ∙ rw (past k t e))
        (by_eq k t))
        end 0 (zero-add end) s
        ∙ rw (le-leb 0 s (omega arith))

-- ---- a word for each number

pub length-each : (n k : ℕ) (f : ℕ → ℕ) → length (chained n k (λ i. f i ∷ [])) ≡ n
unfolding chained
length-each zero k f = refl
length-each (suc n) k f = ap suc (length-each n (suc k) f)

getD-each : (n k i : ℕ) (f : ℕ → ℕ) → i < n → get_or (chained n k (λ j. f j ∷ [])) i 0 ≡ f (k + i)
unfolding chained
getD-each zero k i f l = absurd (omega arith)
getD-each (suc n) k zero f l = ap f (sym (add-zero k))
getD-each (suc n) k (suc i) f l = getD-each n (suc k) i f (omega arith) ∙ ap f (suc-add k i ∙ sym (add-suc k i))

pub at_each : (n : ℕ) (f : ℕ → ℕ) → ((i : ℕ) → n ≤ i → f i ≡ 0) → (i : ℕ) → get_or (chained n 0 (λ j. f j ∷ [])) i 0 ≡ f i
at_each n f h i = ⊎_elim
    (λ (l : i < n). getD-each n 0 i f l ∙ ap f (zero-add i))
    (λ (l : n ≤ i). get_or-eq_default (chained n 0 (λ j. f j ∷ [])) 0 (omega (arith, length-each n 0 f)) ∙ sym (h i l))
    (by_lt i n)
