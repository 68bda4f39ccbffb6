-- A walk over the members of a set, upwards, for any step: what a loop that takes the lowest member each turn computes, and what a loop over all
-- nodes computes; and who is in the union over members. Assumes nothing.
use Rattle.std.specs.Prelude.{◌≡◌, Bool, not, ◌&&◌, ◌||◌, List}
use Rattle.std.proofs.Math.Path.{refl, sym, ap, ap₂, subst}
use Rattle.std.proofs.Common.{◌∙◌, true≢false, eq-or-lt_of_le, le_of_suc-le-suc, add-one, eq-eqb, ne_eqb}
use Rattle.std.proofs.Math.Logic.{⊎_elim}
use Rattle.std.proofs.Math.Bool.{true, false, cond, and-true, or-true, or-false, and-eq-true_iff}
use Prim.Native.Nat.{ℕ, zero, suc, ◌+◌, ◌<◌, ◌^◌}
use native.Mathlib.Omega.{arith}
use Rattle.nodes.specs.Sets.{node_limit, has, lowest, rest, without_node, word_at, upto, walk, gather, unions_at}
use Rattle.nodes.proofs.SetLaws.{has-none, has-union, has-without_node}
use Rattle.nodes.proofs.LowestNode.{lowest-lt, lowest-has, lowest-below}

module _ {A : Type 0} (f : A → ℕ → A) where
  -- ---- node by node

  pub upto-none : (s : ℕ) (a : A) → upto f s a 0 ≡ a
  unfolding upto
  upto-none s a = refl

  pub upto-with : (s i : ℕ) (a : A) → has s i ≡ true → f (upto f s a i) i ≡ upto f s a (i + 1)
  unfolding upto
  upto-with s i a h = ap (λ (t : Bool). cond t (f (upto f s a i) i) (upto f s a i)) (sym h) ∙ ap (upto f s a) (sym (add-one i))

  pub upto_skip : (s i : ℕ) (a : A) → has s i ≡ false → upto f s a i ≡ upto f s a (i + 1)
  unfolding upto
  upto_skip s i a h = ap (λ (t : Bool). cond t (f (upto f s a i) i) (upto f s a i)) (sym h) ∙ ap (upto f s a) (sym (add-one i))

  -- ---- lowest first

  -- where there is no member the walk does nothing
  upto-empty : (s n : ℕ) (a : A) → ((i : ℕ) → i < n → has s i ≡ false) → upto f s a n ≡ a
  unfolding upto
  upto-empty s zero a h = refl
  upto-empty s (suc n) a h =
      ap (λ (t : Bool). cond t (f (upto f s a n) n) (upto f s a n)) (h n (omega arith)) ∙ upto-empty s n a (λ i l. h i (omega arith))

  pub walk_none : (a : A) → walk f 0 a ≡ a
  walk_none a = upto-empty 0 node_limit a (λ i l. has-none i)

  -- a member t with none below it is the first step
  module _ (s t : ℕ) (a : A) (m : has s t ≡ true) (none : (i : ℕ) → i < t → has s i ≡ false) where
    gone : has (without_node s t) t ≡ false
    gone = has-without_node s t t ∙ ap₂ (λ (p q : Bool). p && not q) m (eq-eqb t t refl)

    other : (i : ℕ) → (t ≡ i → ⊥) → has s i ≡ has (without_node s t) i
    other i n = sym (has-without_node s t i ∙ ap (λ (q : Bool). has s i && not q) (ne_eqb t i n) ∙ and-true (has s i))

    first : upto f s a (suc t) ≡ upto f (without_node s t) (f a t) (suc t)
    unfolding upto
    first =
        ap₂ (λ (p : Bool) (x : A). cond p (f x t) x) m (upto-empty s t a none)
        ∙ sym (ap₂ (λ (p : Bool) (x : A). cond p (f x t) x) gone
        (upto-empty (without_node s t) t (f a t) (λ i l. sym (other i (λ e. omega arith)) ∙ none i l)))

    upto-first : (n : ℕ) → t < n → upto f s a n ≡ upto f (without_node s t) (f a t) n
    unfolding upto
    upto-first zero l = elim l [ ]
    upto-first (suc n) l =
        ⊎_elim (λ e. subst (λ (k : ℕ). upto f s a (suc k) ≡ upto f (without_node s t) (f a t) (suc k)) e first)
        (λ k. ap₂ (λ (p : Bool) (x : A). cond p (f x n) x) (other n (λ e. omega arith)) (upto-first n k))
        (eq-or-lt_of_le (le_of_suc-le-suc l))

  -- the lowest member is the first step
  pub walk-rest : (s : ℕ) (a : A) → 0 < s → s < 2 ^ node_limit → walk f (rest s) (f a (lowest s)) ≡ walk f s a
  walk-rest s a p h = sym (upto-first s (lowest s) a (lowest-has s p h) (lowest-below s) node_limit (lowest-lt s p h))

-- ---- who is in the union over members: whoever is in the word of a member

module _ (ws : List ℕ) (s j : ℕ) where
  has-upto : (n : ℕ) → has (upto (gather ws) s 0 (suc n)) j ≡ has (upto (gather ws) s 0 n) j || (has s n && has (word_at ws n) j)
  unfolding upto
  has-upto n = go (has s n) (upto (gather ws) s 0 n)
    where
      go : (t : Bool) (a : ℕ) → has (cond t (gather ws a n) a) j ≡ has a j || (t && has (word_at ws n) j)
      go true a = has-union a (word_at ws n) j
      go false a = sym (or-false (has a j))

  upto-in : (n i : ℕ) → i < n → has s i ≡ true → has (word_at ws i) j ≡ true → has (upto (gather ws) s 0 n) j ≡ true
  upto-in zero i l m h = elim l [ ]
  upto-in (suc n) i l m h =
      has-upto n
      ∙ ⊎_elim now (λ k. ap (λ (t : Bool). t || (has s n && has (word_at ws n) j)) (upto-in n i k m h)) (eq-or-lt_of_le (le_of_suc-le-suc l))
    where
      now : i ≡ n → has (upto (gather ws) s 0 n) j || (has s n && has (word_at ws n) j) ≡ true
      now e =
          let both : has s n && has (word_at ws n) j ≡ true = subst (λ (k : ℕ). has s k && has (word_at ws k) j ≡ true) e (ap₂ ◌&&◌ m h) in
          rw both (or-true (has (upto (gather ws) s 0 n) j))

  -- a member below n whose word has j
  abbrev Source : ℕ → Type 0
  Source n = (i : ℕ) × (i < n) × (has s i ≡ true) × (has (word_at ws i) j ≡ true)

  upto-out : (n : ℕ) → has (upto (gather ws) s 0 n) j ≡ true → Source n
  unfolding upto
  upto-out zero h = absurd (true≢false (sym h ∙ has-none j))
  upto-out (suc n) h = go (upto-out n) (has (upto (gather ws) s 0 n) j) refl (sym (has-upto n) ∙ h)
    where
      go : (has (upto (gather ws) s 0 n) j ≡ true → Source n) → (t : Bool) → has (upto (gather ws) s 0 n) j ≡ t
          → t || (has s n && has (word_at ws n) j) ≡ true → Source (suc n)
      go ih true e k = let q = ih e in (q.0, omega (arith, q.1), q.2, q.3)
      go ih false e k =
          let both = (and-eq-true_iff (has s n) (has (word_at ws n) j)).0 k in
          (n, omega arith, both.0, both.1)

  pub unions_at-in : (i : ℕ) → i < node_limit → has s i ≡ true → has (word_at ws i) j ≡ true → has (unions_at ws s) j ≡ true
  unions_at-in i l m h = upto-in node_limit i l m h

  pub unions_at_out : has (unions_at ws s) j ≡ true → (i : ℕ) × (i < node_limit) × (has s i ≡ true) × (has (word_at ws i) j ≡ true)
  unions_at_out h = upto-out node_limit h
