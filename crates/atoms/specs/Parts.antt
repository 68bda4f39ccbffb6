-- Equal numbers are made of equal bytes. Assumes nothing.
use Rattle.std.specs.Prelude.{◌≡◌, List, ℕ, ◌+◌, ◌-◌, ◌*◌, ◌/◌, ◌≤◌, ◌<◌}
use Rattle.std.proofs.Common.{sym, ◌∙◌}
use Rattle.std.proofs.Math.Path.{ap}
use Rattle.std.proofs.Math.Logic.{⊎_elim}
use native.Mathlib.Omega.{arith}
use borrow.Author.Tests.{eq-eqb, ne_eqb, lt-ltb, le-ltb}
use Rattle.std.specs.Int.Bits.{bit_or, bit_xor, or_add_and, xor_add_and}
use Rattle.std.proofs.lemmas.Nat.{and_le_l, and_le_r}
use Rattle.std.proofs.Math.ListN.{length, get_or}
use Rattle.nodes.specs.Bools.{by_lt, by_eq}
use Rattle.atoms.specs.Marks.{half_word, two, four, eight, few, short_word}

-- every element is a byte
abbrev pub Bytes : List ℕ → Type 0
Bytes t = (k : ℕ) → get_or t k 0 < 256

-- ---- the word of a short atom, by the length

pub short_none : (t : List ℕ) → length t ≡ 0 → short_word t ≡ 0
unfolding short_word
short_none t h = rw (eq-eqb (length t) 0 h)

module _ (t : List ℕ) (some : length t ≡ 0 → ⊥) where
  pub short-few : length t < 4 → short_word t ≡ few t
  unfolding short_word
  short-few h = rw (ne_eqb (length t) 0 some, lt-ltb (length t) 4 h)

  pub short-fours : 4 ≤ length t → short_word t ≡ four t 0 + four t (length t - 4) * half_word
  unfolding short_word
  short-fours l = rw (ne_eqb (length t) 0 some, le-ltb (length t) 4 l)

-- ---- bits

-- words that differ in no bit are equal
pub no_difference : (x y : ℕ) → bit_xor x y ≡ 0 → x ≡ y
no_difference x y h = omega (arith, xor_add_and x y, and_le_l x y, and_le_r x y)

-- no bit is set in two words together where none is in either
pub none_in_both : (x y : ℕ) → bit_or x y ≡ 0 → (x ≡ 0) × (y ≡ 0)
none_in_both x y h = (omega (arith, or_add_and x y, and_le_r x y), omega (arith, or_add_and x y, and_le_l x y))

-- ---- bytes

two-below : (t : List ℕ) (i : ℕ) → Bytes t → two t i < 65536
two-below t i h = omega (arith, h i, h (i + 1))

four_below : (t : List ℕ) (i : ℕ) → Bytes t → four t i < half_word
unfolding four
four_below t i h = omega (arith, two-below t i h, two-below t (i + 2) h)

module _ (a b : List ℕ) (in-a : Bytes a) (in_b : Bytes b) where
  two-parts : (i : ℕ) → two a i ≡ two b i → (k : ℕ) → i ≤ k → k < i + 2 → get_or a k 0 ≡ get_or b k 0
  two-parts i e k l h =
      ⊎_elim
      (λ (t : k ≡ i). rw t (omega (arith, in-a i, in_b i)))
      (λ (t : k ≡ i → ⊥). let u : k ≡ i + 1 = omega arith in rw u (omega (arith, in-a i, in_b i)))
      (by_eq k i)

  four-parts : (i : ℕ) → four a i ≡ four b i → (k : ℕ) → i ≤ k → k < i + 4 → get_or a k 0 ≡ get_or b k 0
  unfolding four
  four-parts i e k l h =
      ⊎_elim
      (λ (t : k < i + 2). two-parts i (omega (arith, two-below a i in-a, two-below b i in_b)) k l t)
      (λ (t : i + 2 ≤ k). two-parts (i + 2) (omega (arith, two-below a i in-a, two-below b i in_b)) k t (omega arith))
      (by_lt k (i + 2))

  pub eight-parts : (i : ℕ) → eight a i ≡ eight b i → (k : ℕ) → i ≤ k → k < i + 8 → get_or a k 0 ≡ get_or b k 0
  unfolding eight
  eight-parts i e k l h =
      ⊎_elim
      (λ (t : k < i + 4). four-parts i (omega (arith, four_below a i in-a, four_below b i in_b)) k l t)
      (λ (t : i + 4 ≤ k). four-parts (i + 4) (omega (arith, four_below a i in-a, four_below b i in_b)) k t (omega arith))
      (by_lt k (i + 4))

  module _ (n : length a ≡ length b) where
    few-parts : few a ≡ few b → length a < 4 → (k : ℕ) → k < length a → get_or a k 0 ≡ get_or b k 0
    unfolding few
    few-parts e s k h =
        ⊎_elim
        (λ (t : k ≡ 0). rw t (omega (arith, in-a 0, in_b 0)))
        (λ (t : k ≡ 0 → ⊥).
        ⊎_elim
        (λ (u : k ≡ length a / 2). rw u (omega (arith, in-a 0, in_b 0, in-a (length a / 2), in_b (length b / 2), ap (λ (x : ℕ). get_or b (x / 2) 0) n)))
        (λ (u : k ≡ length a / 2 → ⊥).
        let w : k ≡ length a - 1 = omega arith in
        rw w (omega (arith, in-a 0, in_b 0, in-a (length a / 2), in_b (length b / 2), ap (λ (x : ℕ). get_or b (x - 1) 0) n)))
        (by_eq k (length a / 2)))
        (by_eq k 0)

    pub short-parts : short_word a ≡ short_word b → length a < 8 → (k : ℕ) → k < length a → get_or a k 0 ≡ get_or b k 0
    short-parts e s k h =
        let x : length a ≡ 0 → ⊥ = λ q. omega arith in
        let y : length b ≡ 0 → ⊥ = λ q. omega arith in
        ⊎_elim
        (λ (t : length a < 4). few-parts (sym (short-few a x t) ∙ e ∙ short-few b y (omega arith)) t k h)
        (λ (t : 4 ≤ length a).
        let f : four a 0 + four a (length a - 4) * half_word ≡ four b 0 + four b (length a - 4) * half_word = rw (← n) at (sym (short-fours a x t) ∙ e ∙ short-fours b y (omega arith)) in
        ⊎_elim
        (λ (v : k < 4). four-parts 0 (omega (arith, four_below a 0 in-a, four_below b 0 in_b)) k (omega arith) v)
        (λ (v : 4 ≤ k). four-parts (length a - 4) (omega (arith, four_below a 0 in-a, four_below b 0 in_b)) k (omega arith) (omega arith))
        (by_lt k 4))
        (by_lt (length a) 4)
