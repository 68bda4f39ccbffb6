-- A loop that changes a run of words a place at a time: what is left to do, done on the run as it stands, gives what the whole loop gives.
-- Laws of a turn and of the end, for a walk over the members of a set and for a pass over all places. Assumes nothing.
use Rattle.std.specs.Prelude.{◌≡◌, refl, Bool, true, false, not, ◌&&◌, cond, List, [], ◌∷◌, ℕ, zero, suc, ◌+◌, ◌≤◌, ◌<◌, leb, length, get_or, set}
use Rattle.std.proofs.Common.{sym, ap, ap₂, ◌∙◌, ⊎_elim, arith, length-set, eq-eqb, ne_eqb, le-leb}
use Rattle.std.proofs.Math.Bool.{and-true}
use Rattle.std.proofs.Math.Seq.{set_out}
use Rattle.std.proofs.lemmas.Bool.{lt-leb}
use Rattle.nodes.specs.Sets.{has, without_node}
use Rattle.nodes.specs.Members.{Step}
use Rattle.nodes.specs.Bools.{by_lt}
use Rattle.nodes.proofs.SetLaws.{has-none, has-without_node}
use Rattle.nodes.proofs.LowestNode.{lowest-has}
use Rattle.semantics.specs.Steps.{mapi}

-- ---- functions of a place and its word

module _ (g h : ℕ → ℕ → ℕ) where
  mapi-ext : (k : ℕ) (l : List ℕ) → ((j x : ℕ) → k ≤ j → g j x ≡ h j x) → mapi g k l ≡ mapi h k l
  mapi-ext k [] e = refl
  mapi-ext k (x ∷ xs) e = ap₂ ◌∷◌ (e k x (omega arith)) (mapi-ext (suc k) xs (λ j y l. e j y (omega arith)))

  -- they agree but at the place p, and a store there makes up for it
  mapi-set : (p k i : ℕ) (l : List ℕ) (v : ℕ) → k + i ≡ p → ((j x : ℕ) → (p ≡ j → ⊥) → g j x ≡ h j x) → g p v ≡ h p (get_or l i 0)
      → mapi g k (set l i v) ≡ mapi h k l
  mapi-set p k i [] v q e d = refl
  mapi-set p k zero (x ∷ xs) v q e d =
      let z : p ≡ k = omega arith in
      ap₂ ◌∷◌ (rw z at d) (mapi-ext (suc k) xs (λ j y l. e j y (λ n. omega arith)))
  mapi-set p k (suc i) (x ∷ xs) v q e d =
      ap₂ ◌∷◌ (e k x (λ n. omega arith)) (mapi-set p (suc k) i xs v (omega arith) e d)

  pub mapi-mapi : (k : ℕ) (l : List ℕ) → mapi g k (mapi h k l) ≡ mapi (λ i x. g i (h i x)) k l
  mapi-mapi k [] = refl
  mapi-mapi k (x ∷ xs) = ap (λ (r : List ℕ). g k (h k x) ∷ r) (mapi-mapi (suc k) xs)

mapi-same : (g : ℕ → ℕ → ℕ) (k : ℕ) (l : List ℕ) → ((j x : ℕ) → j < k + length l → g j x ≡ x) → mapi g k l ≡ l
mapi-same g k [] e = refl
mapi-same g k (x ∷ xs) e = ap₂ ◌∷◌ (e k x (omega arith)) (mapi-same g (suc k) xs (λ j y m. e j y (omega arith)))

-- ---- what is due

-- f at the places where p holds
abbrev pub due : (ℕ → Bool) → (ℕ → ℕ → ℕ) → ℕ → ℕ → ℕ
due p f i x = cond (p i) (f i x) x

-- one turn: f was due where p holds, the word at i is stored, and f is due where q holds, which is all that p has but i
turn : (f : ℕ → ℕ → ℕ) (p q : ℕ → Bool) (i : ℕ) (l : List ℕ) (v : ℕ) → p i ≡ true → q i ≡ false → ((j : ℕ) → (i ≡ j → ⊥) → q j ≡ p j)
    → v ≡ f i (get_or l i 0) → mapi (due q f) 0 (set l i v) ≡ mapi (due p f) 0 l
turn f p q i l v y n o e =
    mapi-set (due q f) (due p f) i 0 i l v (omega arith) (λ j x d. rw (o j d)) (rw (y, n) e)

-- ---- a walk over the members of a set, a store at each

module _ (f : ℕ → ℕ → ℕ) where
  -- f at the members of s
  abbrev pub at_members : ℕ → List ℕ → List ℕ
  at_members s = mapi (due (has s) f) 0

  members-turn : (s i : ℕ) (l : List ℕ) (v : ℕ) → has s i ≡ true → v ≡ f i (get_or l i 0)
      → at_members (without_node s i) (set l i v) ≡ at_members s l
  members-turn s i l v m e =
      turn f (has s) (has (without_node s i)) i l v m (has-without_node s i i ∙ ap₂ (λ (a b : Bool). a && not b) m (eq-eqb i i refl))
      (λ j d. has-without_node s i j ∙ ap (λ (b : Bool). has s j && not b) (ne_eqb i j d) ∙ and-true (has s j)) e

  members-none : (l : List ℕ) → at_members 0 l ≡ l
  members-none l = mapi-same (due (has 0) f) 0 l (λ j x h. rw (has-none j))

  -- in the walk over s that began on the run l₀, the run is now l and the members of left are to come
  pub record Walk (s : ℕ) (l₀ : List ℕ) (left : ℕ) (l : List ℕ) : Type 0 where
    pub long : length l ≡ length l₀
    pub goal : at_members left l ≡ at_members s l₀

  module _ {s : ℕ} {l₀ : List ℕ} {left : ℕ} {l : List ℕ} (w : Walk s l₀ left l) {i r : ℕ} (step : Step left i r) where
    -- the member's word is stored
    pub walk-store : {v : ℕ} {l₁ : List ℕ} → v ≡ f i (get_or l i 0) → l₁ ≡ set l i v → Walk s l₀ r l₁
    walk-store {v = v} d e =
        record {
          long = ap length e ∙ length-set l i v ∙ w.long;
          goal =
              ap₂ at_members (step.others ∙ ap (without_node left) (sym step.is)) e
              ∙ members-turn left i l v (ap (has left) step.is ∙ lowest-has left step.some step.fits) d ∙ w.goal;
        }

    -- the member is past the end
    pub walk-past : {l₁ : List ℕ} → length l ≤ i → l₁ ≡ l → Walk s l₀ r l₁
    walk-past h e = walk-store refl (e ∙ sym (set_out l i (f i (get_or l i 0)) h))

  pub walk_end : {s left : ℕ} {l₀ l : List ℕ} → Walk s l₀ left l → left ≡ 0 → l ≡ at_members s l₀
  walk_end {l = l} w z = sym (members-none l) ∙ ap (λ (k : ℕ). at_members k l) (sym z) ∙ w.goal

-- ---- a pass over all places

module _ (f : ℕ → ℕ → ℕ) where
  -- f at the places from i on
  abbrev pub from : ℕ → List ℕ → List ℕ
  from i = mapi (due (leb i) f) 0

  -- the word at i is stored: what is due begins behind it
  pub from-turn : (i : ℕ) (l : List ℕ) (v : ℕ) → v ≡ f i (get_or l i 0) → from (i + 1) (set l i v) ≡ from i l
  from-turn i l v e =
      turn f (leb i) (leb (i + 1)) i l v (le-leb i i (omega arith)) (lt-leb (i + 1) i (omega arith))
      (λ j d. ⊎_elim (λ b. lt-leb (i + 1) j (omega arith) ∙ sym (lt-leb i j b)) (λ b. le-leb (i + 1) j (omega arith) ∙ sym (le-leb i j b)) (by_lt j i)) e

  pub from_end : (i : ℕ) (l : List ℕ) → length l ≤ i → from i l ≡ l
  from_end i l h = mapi-same (due (leb i) f) 0 l (λ j x m. rw (lt-leb i j (omega arith)))
