-- The tests of connections: what lies outside a node's due, and what is not mutual, pair by pair. Assumes nothing.
use Rattle.std.specs.Prelude.{◌≡◌, refl, Bool, true, false, not, ◌&&◌, List, ℕ, zero, suc, ◌+◌, ◌-◌, ◌/◌, ◌%◌, ◌^◌, ◌≤◌, ◌<◌, eqb, length, drop}
use Rattle.std.proofs.Common.{sym, ap, ap₂, ◌∙◌, ⊎_elim, eq-or-lt_of_le, arith, pow_pos, pow_mono, eqb-true, eq-eqb, ne_eqb}
use Rattle.std.specs.Bool.{beq}
use Rattle.std.proofs.Math.Bool.{and-eq-true_iff}
use Rattle.std.specs.Int.Bits.{bit_or, bit_xor, differ, or_step, xor_step}
use Rattle.nodes.specs.Sets.{node_limit, has, empty, single, roster, union, inter, diff, beyond, word_at}
use Rattle.nodes.specs.Bools.{by_test, by_lt, test-ext}
use Rattle.nodes.proofs.SetLaws.{inter-union, inter-single-in, inter-single-out, subset-diff, beyond-roster, has_above, has-none, below-pow}
use Rattle.nodes.proofs.Words.{inter-not}
use Rattle.semantics.specs.Test.{linked}
use Rattle.free_test.specs.WireTests.{all_below, all_zero, own_linked, both_ways, own_mutual}
use Rattle.free_test.specs.Below.{below_step, tests, tail-iff, within-iff}
use Rattle.free_test.specs.Gather.{empty-union}

-- ---- a node's connections

-- `w & (1 << i)` is zero where i is not in w
empty-single : (w i : ℕ) → empty (inter w (single i)) ≡ not (has w i)
empty-single w i =
    ⊎_elim (λ m. rw (inter-single-in w i m, m) (ne_eqb (single i) 0 (λ e. omega (arith, pow_pos i))))
    (λ m. rw (inter-single-out w i m, m))
    (by_test (has w i))

-- `w & !roster(n)` is zero where w lies among the first n nodes
empty-outside : (w n : ℕ) → w < 2 ^ node_limit → n ≤ node_limit → empty (inter w (roster node_limit - roster n)) ≡ not (beyond w n)
empty-outside w n fits few =
    ap empty (inter-not w (roster n) fits (omega (arith, pow_mono few, pow_pos n)))
    ∙ sym (rw (beyond-roster w n, subset-diff w (roster n)) (not-not (empty (diff w (roster n)))))
  where
    not-not : (t : Bool) → not (not t) ≡ t
    not-not true = refl
    not-not false = refl

-- `w & (!roster(n) | (1 << i))` is zero where w is what a node i of n may have
pub empty-linked : (w n i : ℕ) → w < 2 ^ node_limit → n ≤ node_limit
    → empty (inter w (union (roster node_limit - roster n) (single i))) ≡ linked n i w
empty-linked w n i fits few =
    rw (inter-union w (roster node_limit - roster n) (single i), empty-union (inter w (roster node_limit - roster n)) (inter w (single i)))
    (ap₂ ◌&&◌ (empty-outside w n fits few) (empty-single w i))

-- ---- pair by pair

-- the lowest digit is 0
abbrev pub even : ℕ → Bool
even w = eqb (w % 2) 0

even-or : (a b : ℕ) → even (bit_or a b) ≡ (even a && even b)
even-or a b =
    test-ext (even (bit_or a b)) (even a && even b)
    (λ e. let z = eqb-true (bit_or a b % 2) 0 e in
    (and-eq-true_iff (even a) (even b)).1 (eq-eqb (a % 2) 0 (omega (arith, or_step a b)), eq-eqb (b % 2) 0 (omega (arith, or_step a b))))
    (λ e. let both = (and-eq-true_iff (even a) (even b)).0 e in
    eq-eqb (bit_or a b % 2) 0 (omega (arith, or_step a b, eqb-true (a % 2) 0 both.0, eqb-true (b % 2) 0 both.1)))

pub even-xor : (a b : ℕ) → even (bit_xor a b) ≡ beq (eqb (a % 2) 1) (eqb (b % 2) 1)
even-xor a b =
    let same = digits (a % 2) (b % 2) (omega arith) (omega arith) in
    let low : bit_xor a b % 2 ≡ differ (a % 2) (b % 2) = omega (arith, xor_step a b, same.0) in
    ap (λ (x : ℕ). eqb x 0) low ∙ same.1
  where
    digits : (x y : ℕ) → x < 2 → y < 2 → (differ x y < 2) × (eqb (differ x y) 0 ≡ beq (eqb x 1) (eqb y 1))
    digits zero zero p q = (p, refl)
    digits zero (suc zero) p q = (q, refl)
    digits (suc zero) zero p q = (p, refl)
    digits (suc zero) (suc zero) p q = (omega arith, refl)
    digits zero (suc (suc y)) p q = absurd (omega arith)
    digits (suc zero) (suc (suc y)) p q = absurd (omega arith)
    digits (suc (suc x)) y p q = absurd (omega arith)

-- one turn of a loop that gathers, in the lowest digit, where two digits differ
pub paired : (all v w i j : ℕ) (p : ℕ → Bool) → even all ≡ all_below j p → beq (has v j) (has w i) ≡ p j
    → even (bit_or all (bit_xor (v / 2 ^ j) (w / 2 ^ i))) ≡ all_below (j + 1) p
paired all v w i j p so at =
    even-or all (bit_xor (v / 2 ^ j) (w / 2 ^ i)) ∙ ap₂ ◌&&◌ so (even-xor (v / 2 ^ j) (w / 2 ^ i) ∙ at) ∙ sym (below_step j p)

-- each pair once is enough
pub each-pair : (links : List ℕ) (n : ℕ) → all_below n (λ i. all_below i (both_ways links i)) ≡ own_mutual links n
each-pair links n =
    test-ext (all_below n (λ i. all_below i (both_ways links i))) (own_mutual links n)
    (λ e. let h = simp tests at e in
    simp tests (λ i l j k. ⊎_elim (λ lt. sym (h j k i lt)) (λ ge. ⊎_elim (λ q. rw q) (λ lt. h i l j lt) (eq-or-lt_of_le ge)) (by_lt i j)))
    (λ e. let h = simp tests at e in simp tests (λ i l j k. h i l j (omega arith)))

-- ---- all 64 nodes for n

-- where the connections of n nodes are among them, and the other words are zero, all 64 are mutual where those of the n nodes are
pub whole-mutual : (links : List ℕ) (n : ℕ) → length links ≡ node_limit → n ≤ node_limit
    → (own_linked links n && all_zero (drop n links) && own_mutual links node_limit) ≡ (own_linked links n && all_zero (drop n links) && own_mutual links n)
whole-mutual links n long few =
    test-ext (own_linked links n && all_zero (drop n links) && own_mutual links node_limit)
    (own_linked links n && all_zero (drop n links) && own_mutual links n)
    (λ e. let h = simp (within-iff, tail-iff, tests) at e in
    simp (within-iff, tail-iff, tests) (h.0, λ i l j m. h.1 i (omega arith) j (omega arith)))
    (λ e. let h = simp (within-iff, tail-iff, tests) at e in
    let off : (i j : ℕ) → i < node_limit → n ≤ j → has (word_at links i) j ≡ false =
    λ i j l m. ⊎_elim (λ on. has_above (word_at links i) n j (below-pow (word_at links i) n (h.0.0 i on).0) m)
    (λ past. ap (λ (w : ℕ). has w j) (h.0.1 i past (omega arith)) ∙ has-none j)
    (by_lt i n) in
    let none : (i j : ℕ) → n ≤ i → i < node_limit → has (word_at links i) j ≡ false =
    λ i j past l. ap (λ (w : ℕ). has w j) (h.0.1 i past (omega arith)) ∙ has-none j in
    simp (within-iff, tail-iff, tests) (
      h.0,
      λ i l j m.
          ⊎_elim (λ on.
          ⊎_elim (λ on'. h.1 i on j on') (λ past'. off i j l past' ∙ sym (none j i past' m)) (by_lt j n))
          (λ past. none i j past l ∙ sym (off j i m past))
          (by_lt i n),
    ))
