-- The test of every number below a bound: what a loop that makes it turn by turn needs, and what a reader needs, with the other tests that stand
-- in it. Assumes nothing.
use Rattle.std.specs.Prelude.{◌≡◌, refl, ◌↔◌, Bool, true, false, not, ◌&&◌, ◌||◌, List, ℕ, zero, suc, ◌+◌, ◌-◌, ◌^◌, ◌≤◌, ◌<◌, eqb, leb, length, drop}
use Rattle.std.proofs.Common.{sym, ap, ap₂, ◌∙◌, ⊎_elim, true≢false, eq-or-lt_of_le, le_of_suc-le-suc, not-suc-le-zero, add-one, arith, length-drop, get_or-drop, leb-true, leb-false, eqb-true, le-leb, eq-eqb}
use Rattle.std.specs.Bool.{beq}
use Rattle.std.proofs.Math.Bool.{and-eq-true_iff}
use Rattle.std.proofs.lemmas.Bool.{not-true, lt-leb}
use Rattle.nodes.specs.Sets.{node_limit, has, beyond, word_at}
use Rattle.nodes.proofs.SetLaws.{has-below, below-pow}
use Rattle.free_test.specs.WireTests.{all_below, all_of, all_zero}

-- ---- for a loop

pub below_none : (p : ℕ → Bool) → all_below 0 p ≡ true
unfolding all_below
below_none p = refl

pub below_step : (n : ℕ) (p : ℕ → Bool) → all_below (n + 1) p ≡ (all_below n p && p n)
unfolding all_below
below_step n p = rw add-one

-- ---- for a reader

pub below_at : (n : ℕ) (p : ℕ → Bool) → all_below n p ≡ true → (i : ℕ) → i < n → p i ≡ true
unfolding all_below
below_at zero p e i l = absurd (not-suc-le-zero l)
below_at (suc n) p e i l =
    ⊎_elim (λ q. rw q ((and-eq-true_iff (all_below n p) (p n)).0 e).1)
    (λ lt. below_at n p ((and-eq-true_iff (all_below n p) (p n)).0 e).0 i lt)
    (eq-or-lt_of_le (le_of_suc-le-suc l))

pub below-from : (n : ℕ) (p : ℕ → Bool) → ((i : ℕ) → i < n → p i ≡ true) → all_below n p ≡ true
unfolding all_below
below-from zero p h = refl
below-from (suc n) p h =
    (and-eq-true_iff (all_below n p) (p n)).1 (below-from n p (λ i l. h i (omega arith)), h n (omega arith))

-- equal tests of each number: equal tests of all
pub below-ext : (n : ℕ) (p q : ℕ → Bool) → ((i : ℕ) → i < n → p i ≡ q i) → all_below n p ≡ all_below n q
unfolding all_below
below-ext zero p q h = refl
below-ext (suc n) p q h = ap₂ ◌&&◌ (below-ext n p q (λ i l. h i (omega arith))) (h n (omega arith))

pub below-iff : (n : ℕ) (p : ℕ → Bool) → (all_below n p ≡ true) ↔ ((i : ℕ) → i < n → p i ≡ true)
below-iff n p = (below_at n p, below-from n p)

pub imp-iff : (a b : Bool) → (not a || b ≡ true) ↔ (a ≡ true → b ≡ true)
imp-iff true b = (λ e _. e, λ f. f refl)
imp-iff false b = (λ e q. absurd (true≢false (sym q)), λ f. refl)

pub not_iff : (a : Bool) → (not a ≡ true) ↔ (a ≡ true → ⊥)
not_iff true = (λ e q. true≢false (sym e), λ f. absurd (f refl))
not_iff false = (λ e q. true≢false (sym q), λ f. refl)

pub leb-iff : (a b : ℕ) → (leb a b ≡ true) ↔ (a ≤ b)
leb-iff a b = (leb-true a b, le-leb a b)

pub eqb-iff : (a b : ℕ) → (eqb a b ≡ true) ↔ (a ≡ b)
eqb-iff a b = (eqb-true a b, eq-eqb a b)

pub beq-iff : (a b : Bool) → (beq a b ≡ true) ↔ (a ≡ b)
beq-iff true true = (λ e. refl, λ e. refl)
beq-iff true false = (λ e. sym e, λ e. sym e)
beq-iff false true = (λ e. e, λ e. e)
beq-iff false false = (λ e. refl, λ e. refl)

-- `simp tests at e` reads a test that holds as what it says, and `simp tests p` proves a test from that. `eqb-iff` is not among them: membership
-- is such a test too
pub ruleset tests = (and-eq-true_iff, below-iff, imp-iff, not_iff, leb-iff, beq-iff)

pub of_iff : (set : ℕ) (p : ℕ → Bool) → (all_of set p ≡ true) ↔ ((i : ℕ) → i < node_limit → has set i ≡ true → p i ≡ true)
of_iff set p = (λ e. simp (below-iff, imp-iff) at e, λ h. simp (below-iff, imp-iff) h)

-- every word is zero
pub all_zero-iff : (ws : List ℕ) → (all_zero ws ≡ true) ↔ ((i : ℕ) → i < length ws → word_at ws i ≡ 0)
unfolding all_zero
all_zero-iff ws = (λ e. simp (below-iff, eqb-iff) at e, λ h. simp (below-iff, eqb-iff) h)

-- the words from n on
pub tail-iff : (n : ℕ) (ws : List ℕ) → (all_zero (drop n ws) ≡ true) ↔ ((i : ℕ) → n ≤ i → i < length ws → word_at ws i ≡ 0)
tail-iff n ws = (
  λ e i l m.
      let back : n + (i - n) ≡ i = omega arith in
      let here : i - n < length (drop n ws) = simp length-drop (omega arith) in
      ap (word_at ws) (sym back) ∙ sym (get_or-drop n ws (i - n) 0) ∙ (all_zero-iff (drop n ws)).0 e (i - n) here,
  λ h. (all_zero-iff (drop n ws)).1 (λ i l. get_or-drop n ws i 0 ∙ h (n + i) (omega arith) (omega (arith, simp length-drop at l))),
)

-- a set among the first n nodes
pub within-iff : (w n : ℕ) → (not (beyond w n) ≡ true) ↔ ((i : ℕ) → has w i ≡ true → i < n)
within-iff w n = (
  λ e i m. has-below w n i (leb-false (2 ^ n) w (not-true (beyond w n) e)) m,
  λ h. ap not (lt-leb (2 ^ n) w (below-pow w n h)),
)
