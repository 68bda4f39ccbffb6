-- A loop that gathers by `|` what fails: nothing is gathered where every turn passes; and a walk over the members of a set. Assumes nothing.
use Rattle.std.specs.Prelude.{◌≡◌, Bool, true, not, ◌&&◌, ℕ, ◌+◌, ◌^◌, ◌<◌, eqb}
use Rattle.std.proofs.Common.{sym, ap, ap₂, ◌∙◌, ⊎_elim, true≢false, arith, eqb-true, eq-eqb, ne_eqb}
use Rattle.std.proofs.Math.Bool.{and-true, and_assoc, and-eq-true_iff}
use Rattle.std.specs.Int.Bits.{bit_or, bit_xor, or_add_and, xor_add_and, xor_self}
use Rattle.std.proofs.lemmas.Nat.{and_le_l, and_le_r}
use Rattle.nodes.specs.Sets.{node_limit, has, empty, union, lowest, rest}
use Rattle.nodes.specs.Bools.{by_eq, test-ext}
use Rattle.nodes.proofs.SetLaws.{has-none, has-without_node}
use Rattle.nodes.proofs.LowestNode.{lowest-lt, lowest-has}
use Rattle.free_test.specs.WireTests.{all_below, all_of}
use Rattle.free_test.specs.Below.{below_step, of_iff}

-- a union has no member where neither set has
pub empty-union : (a b : ℕ) → empty (union a b) ≡ (empty a && empty b)
unfolding union
empty-union a b =
    test-ext (empty (bit_or a b)) (empty a && empty b)
    (λ e. let z = eqb-true (bit_or a b) 0 e in
    (and-eq-true_iff (empty a) (empty b)).1
    (eq-eqb a 0 (omega (arith, or_add_and a b, and_le_r a b)), eq-eqb b 0 (omega (arith, or_add_and a b, and_le_l a b))))
    (λ e. let both = (and-eq-true_iff (empty a) (empty b)).0 e in
    eq-eqb (bit_or a b) 0 (omega (arith, or_add_and a b, eqb-true a 0 both.0, eqb-true b 0 both.1)))

-- `a ^ b` is zero where the two are equal
pub empty-xor : (a b : ℕ) → empty (bit_xor a b) ≡ eqb a b
empty-xor a b =
    test-ext (empty (bit_xor a b)) (eqb a b)
    (λ e. eq-eqb a b (omega (arith, eqb-true (bit_xor a b) 0 e, xor_add_and a b, and_le_l a b, and_le_r a b)))
    (λ e. eq-eqb (bit_xor a b) 0 (ap (λ (x : ℕ). bit_xor x b) (eqb-true a b e) ∙ xor_self b))

-- one turn more
pub gathered : (all w i : ℕ) (p : ℕ → Bool) → empty all ≡ all_below i p → empty w ≡ p i → empty (union all w) ≡ all_below (i + 1) p
gathered all w i p so at = empty-union all w ∙ ap₂ ◌&&◌ so at ∙ sym (below_step i p)

-- one turn more, of a loop that compares two words
pub compared : (all v w i : ℕ) (p : ℕ → Bool) → empty all ≡ all_below i p → eqb v w ≡ p i → empty (bit_or all (bit_xor v w)) ≡ all_below (i + 1) p
unfolding union
compared all v w i p so at = gathered all (bit_xor v w) i p so (empty-xor v w ∙ at)

-- ---- a walk over the members of a set, lowest first

-- every member passes where the lowest does and every other does
of-first : (set : ℕ) (p : ℕ → Bool) → 0 < set → set < 2 ^ node_limit → all_of set p ≡ (p (lowest set) && all_of (rest set) p)
of-first set p some fits =
    test-ext (all_of set p) (p (lowest set) && all_of (rest set) p)
    (λ e. let h = (of_iff set p).0 e in
    (and-eq-true_iff (p (lowest set)) (all_of (rest set) p)).1
    (h (lowest set) (lowest-lt set some fits) (lowest-has set some fits), (of_iff (rest set) p).1 (λ i l m. h i l (kept i m))))
    (λ e. let both = (and-eq-true_iff (p (lowest set)) (all_of (rest set) p)).0 e in
    (of_iff set p).1
    (λ i l m. ⊎_elim (λ q. rw (← q) both.0) (λ n. (of_iff (rest set) p).0 both.1 i l (left i m n)) (by_eq (lowest set) i)))
  where
    kept : (i : ℕ) → has (rest set) i ≡ true → has set i ≡ true
    kept i m = ((and-eq-true_iff (has set i) (not (eqb (lowest set) i))).0 (sym (has-without_node set (lowest set) i) ∙ m)).0

    left : (i : ℕ) → has set i ≡ true → (lowest set ≡ i → ⊥) → has (rest set) i ≡ true
    left i m n = has-without_node set (lowest set) i ∙ rw (m, ne_eqb (lowest set) i n)

-- one turn: what all passed say, with what the lowest member says, and the rest is left
pub turn : (was now : Bool) (left : ℕ) (p : ℕ → Bool) → 0 < left → left < 2 ^ node_limit → now ≡ (was && p (lowest left))
    → (now && all_of (rest left) p) ≡ (was && all_of left p)
turn was now left p some fits at = rw (at, of-first left p some fits) (and_assoc was (p (lowest left)) (all_of (rest left) p))

-- one turn: what fails of the lowest member is gathered, and the rest is left
pub met-turn : (all w left : ℕ) (p : ℕ → Bool) → 0 < left → left < 2 ^ node_limit → empty w ≡ p (lowest left)
    → (empty (union all w) && all_of (rest left) p) ≡ (empty all && all_of left p)
met-turn all w left p some fits at =
    turn (empty all) (empty (union all w)) left p some fits (empty-union all w ∙ ap (λ (t : Bool). empty all && t) at)

-- at the end no member is left
pub walked : (was : Bool) (left : ℕ) (p : ℕ → Bool) → left ≡ 0 → was ≡ (was && all_of left p)
walked was left p none = sym (rw (none, of_none) (and-true was))
  where
    of_none : all_of 0 p ≡ true
    of_none = (of_iff 0 p).1 (λ i l m. absurd (true≢false (sym m ∙ has-none i)))
