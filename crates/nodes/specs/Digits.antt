-- The binary digits of a set: 1 for a member, else 0. A number is its digits, and each operation goes digit by digit. Assumes nothing.
use Rattle.std.specs.Prelude.{◌≡◌, refl, ℕ, zero, suc, ◌+◌, ◌-◌, ◌*◌, ◌/◌, ◌%◌, ◌^◌, ◌≤◌, ◌<◌, min, max}
use Rattle.std.proofs.Common.{sym, ap, ap₂, ◌∙◌, div-one, pow-suc, one-add, arith, pow_pos, pow_mono, shr-shr}
use Rattle.std.proofs.Math.Nat.{div-eq_of_lt}
use Rattle.std.proofs.Math.Pow.{ones_lt}
use Rattle.std.specs.Int.Bits.{bit_and, bit_or, and_step, or_step}
use Rattle.std.proofs.lemmas.Nat.{and_le_l}
use Rattle.nodes.specs.Sets.{bit, union, inter, diff, single, roster}

-- ---- one digit

pub bit-zero : (w : ℕ) → bit w 0 ≡ w % 2
bit-zero w = ap (λ (x : ℕ). x % 2) (div-one w)

pub bit_suc : (w i : ℕ) → bit w (suc i) ≡ bit (w / 2) i
bit_suc w i = ap (λ (k : ℕ). w / 2 ^ k % 2) (sym (one-add i)) ∙ ap (λ (x : ℕ). x % 2) (sym (shr-shr w 1 i))

pub bit-lt : (w i : ℕ) → bit w i < 2
bit-lt w i = omega arith

-- past the number's length there is nothing
pub bit-above : (w n i : ℕ) → w < 2 ^ n → n ≤ i → bit w i ≡ 0
bit-above w n i h l = ap (λ (x : ℕ). x % 2) (div-eq_of_lt (omega (arith, pow_mono l)))

pub bit-none : (i : ℕ) → bit 0 i ≡ 0
bit-none i = bit-above 0 0 i (omega arith) (omega arith)

-- ---- two numbers are equal by their digits

pub lt-pow : (n : ℕ) → n < 2 ^ n
lt-pow zero = omega arith
lt-pow (suc n) = omega (arith, lt-pow n, pow-suc 2 n)

bit-ext-below : (n a b : ℕ) → a < 2 ^ n → b < 2 ^ n → ((i : ℕ) → bit a i ≡ bit b i) → a ≡ b
bit-ext-below zero a b ha hb e = omega arith
bit-ext-below (suc n) a b ha hb e =
    let later : (i : ℕ) → bit (a / 2) i ≡ bit (b / 2) i = λ i. sym (bit_suc a i) ∙ e (suc i) ∙ bit_suc b i in
    let high : a / 2 ≡ b / 2 = bit-ext-below n (a / 2) (b / 2) (omega (arith, pow-suc 2 n)) (omega (arith, pow-suc 2 n)) later in
    let low : a % 2 ≡ b % 2 = sym (bit-zero a) ∙ e 0 ∙ bit-zero b in
    omega arith

pub bit-ext : (a b : ℕ) → ((i : ℕ) → bit a i ≡ bit b i) → a ≡ b
bit-ext a b e = bit-ext-below (a + b) a b (omega (arith, lt-pow (a + b))) (omega (arith, lt-pow (a + b))) e

-- ---- the operations

-- an operation that goes digit by digit
module _ (op : ℕ → ℕ → ℕ) (f : ℕ → ℕ → ℕ) (small : (x y : ℕ) → x < 2 → y < 2 → f x y < 2)
    (step : (a b : ℕ) → op a b ≡ op (a / 2) (b / 2) * 2 + f (a % 2) (b % 2)) where
  bit-op : (a b i : ℕ) → bit (op a b) i ≡ f (bit a i) (bit b i)
  bit-op a b zero =
      let h = small (a % 2) (b % 2) (omega arith) (omega arith) in
      let e = step a b in
      let low : op a b % 2 ≡ f (a % 2) (b % 2) = omega arith in
      bit-zero (op a b) ∙ low ∙ ap₂ f (sym (bit-zero a)) (sym (bit-zero b))
  bit-op a b (suc i) =
      let h = small (a % 2) (b % 2) (omega arith) (omega arith) in
      let e = step a b in
      let high : op a b / 2 ≡ op (a / 2) (b / 2) = omega arith in
      bit_suc (op a b) i ∙ ap (λ (x : ℕ). bit x i) high ∙ bit-op (a / 2) (b / 2) i ∙ ap₂ f (sym (bit_suc a i)) (sym (bit_suc b i))

diff_step : (a b : ℕ) → diff a b ≡ diff (a / 2) (b / 2) * 2 + (a % 2 - b % 2)
unfolding diff
diff_step a b = omega (arith, and_step a b, and_le_l (a / 2) (b / 2))

pub bit-union : (a b i : ℕ) → bit (union a b) i ≡ max (bit a i) (bit b i)
unfolding union
bit-union = bit-op bit_or max (λ x y p q. omega arith) or_step

pub bit-inter : (a b i : ℕ) → bit (inter a b) i ≡ min (bit a i) (bit b i)
unfolding inter
bit-inter = bit-op bit_and min (λ x y p q. omega arith) and_step

pub bit-diff : (a b i : ℕ) → bit (diff a b) i ≡ bit a i - bit b i
bit-diff = bit-op diff ◌-◌ (λ x y p q. omega arith) diff_step

-- ---- one node, and the first n

pub bit_single : (i : ℕ) → bit (single i) i ≡ 1
bit_single zero = bit-zero 1
bit_single (suc i) = bit_suc (2 ^ suc i) i ∙ ap (λ (x : ℕ). bit x i) (omega (arith, pow-suc 2 i)) ∙ bit_single i

pub bit_single-other : (i j : ℕ) → (i ≡ j → ⊥) → bit (single i) j ≡ 0
bit_single-other zero zero h = absurd (h refl)
bit_single-other zero (suc j) h = bit-above 1 1 (suc j) (omega arith) (omega arith)
bit_single-other (suc i) zero h = bit-zero (2 ^ suc i) ∙ omega (arith, pow-suc 2 i)
bit_single-other (suc i) (suc j) h =
    bit_suc (2 ^ suc i) j ∙ ap (λ (x : ℕ). bit x j) (omega (arith, pow-suc 2 i)) ∙ bit_single-other i j (λ e. h (ap suc e))

pub bit-roster : (n i : ℕ) → i < n → bit (roster n) i ≡ 1
bit-roster zero i h = elim h [ ]
bit-roster (suc n) zero h = bit-zero (2 ^ suc n - 1) ∙ omega (arith, pow-suc 2 n, pow_pos n)
bit-roster (suc n) (suc i) h =
    bit_suc (2 ^ suc n - 1) i ∙ ap (λ (x : ℕ). bit x i) (omega (arith, pow-suc 2 n, pow_pos n)) ∙ bit-roster n i (omega arith)

pub bit-roster-above : (n i : ℕ) → n ≤ i → bit (roster n) i ≡ 0
bit-roster-above n i h = bit-above (2 ^ n - 1) n i (ones_lt n) h
