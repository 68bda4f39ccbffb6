-- Printing and reading are inverse: the decimal of a number of 64 bits reads as the number. Assumes nothing.
use Rattle.std.specs.Prelude.{◌≡◌, refl, Bool, true, false, cond, List, [], ◌∷◌, ◌++◌, ℕ, zero, suc, ◌≤◌, ◌<◌, ◌-◌, ◌+◌, ◌*◌, ◌/◌, ◌%◌, ◌^◌, ltb, Option, Some}
use Rattle.std.proofs.Common.{ap, ◌∙◌, append_assoc, pow-suc, arith, le-leb, lt-ltb, ltb-true, ltb-false, ne_eqb}
use Rattle.text.specs.Numbers.{digit_0, word_limit, plain, numeral}
use Rattle.text.specs.DecimalDigits.{more, more_of, digits_from, numeral-by-digits}
use Rattle.print.specs.Printed.{decimal_in, decimal}

-- one digit more
digit : (v d n : ℕ) → d < 10 → v * 10 + d ≡ n → n < word_limit → more_of (Some v) (digit_0 + d) ≡ Some n
unfolding more more_of
digit v d n h e l =
    let z : v * 10 + (digit_0 + d - digit_0) ≡ n = omega arith in
    rw (le-leb digit_0 (digit_0 + d) (omega arith), le-leb (digit_0 + d) 57 (omega arith), z, lt-ltb n word_limit l)

-- the digits of a list behind another's
digits_append : (v : Option ℕ) (a b : List ℕ) → digits_from v (a ++ b) ≡ digits_from (digits_from v a) b
unfolding digits_from
digits_append v [] b = refl
digits_append v (x ∷ a) b = digits_append (more_of v x) a b

value : (k n : ℕ) → n < 10 ^ suc k → n < word_limit → digits_from (Some 0) (decimal_in k n) ≡ Some n
unfolding digits_from decimal_in
value zero n h l = digit 0 (n % 10) n (omega arith) (omega arith) l
value (suc k) n h l = pick (ltb n 10) refl (value k (n / 10))
  where
    pick : (t : Bool) → ltb n 10 ≡ t → (n / 10 < 10 ^ suc k → n / 10 < word_limit → digits_from (Some 0) (decimal_in k (n / 10)) ≡ Some (n / 10))
        → digits_from (Some 0) (cond t ((digit_0 + n) ∷ []) (decimal_in k (n / 10) ++ ((digit_0 + n % 10) ∷ []))) ≡ Some n
    pick true e f = let s : n < 10 = ltb-true _ _ e in digit 0 n n s (omega arith) l
    pick false e f =
        let p : 10 ^ suc (suc k) ≡ 10 ^ suc k * 10 = pow-suc 10 (suc k) in
        digits_append (Some 0) (decimal_in k (n / 10)) ((digit_0 + n % 10) ∷ [])
        ∙ ap (λ (v : Option ℕ). digits_from v ((digit_0 + n % 10) ∷ [])) (f (omega arith) (omega arith))
        ∙ digit (n / 10) (n % 10) n (omega arith) (omega arith) l

-- no zero stands in front
front : (d x : ℕ) (xs : List ℕ) → 0 < d → plain ((digit_0 + d) ∷ x ∷ xs) ≡ true
unfolding plain
front d x xs h = rw (ne_eqb (digit_0 + d) digit_0 (λ q. omega arith))

lead : (k n x : ℕ) (xs : List ℕ) → 0 < n → n < 10 ^ suc k → plain (decimal_in k n ++ (x ∷ xs)) ≡ true
unfolding decimal_in
lead zero n x xs h l = front (n % 10) x xs (omega arith)
lead (suc k) n x xs h l = pick (ltb n 10) refl (lead k (n / 10) (digit_0 + n % 10) (x ∷ xs))
  where
    pick : (t : Bool) → ltb n 10 ≡ t → (0 < n / 10 → n / 10 < 10 ^ suc k → plain (decimal_in k (n / 10) ++ ((digit_0 + n % 10) ∷ x ∷ xs)) ≡ true)
        → plain (cond t ((digit_0 + n) ∷ []) (decimal_in k (n / 10) ++ ((digit_0 + n % 10) ∷ [])) ++ (x ∷ xs)) ≡ true
    pick true e f = front n x xs h
    pick false e f =
        let p : 10 ^ suc (suc k) ≡ 10 ^ suc k * 10 = pow-suc 10 (suc k) in
        let g : 10 ≤ n = ltb-false _ _ e in
        rw append_assoc (f (omega arith) (omega arith))

plain-decimal : (k n : ℕ) → n < 10 ^ suc k → plain (decimal_in k n) ≡ true
unfolding decimal_in plain
plain-decimal zero n h = refl
plain-decimal (suc k) n h = pick (ltb n 10) refl
  where
    pick : (t : Bool) → ltb n 10 ≡ t → plain (cond t ((digit_0 + n) ∷ []) (decimal_in k (n / 10) ++ ((digit_0 + n % 10) ∷ []))) ≡ true
    pick true e = refl
    pick false e =
        let p : 10 ^ suc (suc k) ≡ 10 ^ suc k * 10 = pow-suc 10 (suc k) in
        let g : 10 ≤ n = ltb-false _ _ e in
        lead k (n / 10) (digit_0 + n % 10) [] (omega arith) (omega arith)

pub numeral-decimal : (n : ℕ) → n < word_limit → numeral (decimal n) ≡ Some n
unfolding decimal
numeral-decimal n h = numeral-by-digits (decimal n) ∙ rw (plain-decimal 19 n (omega arith)) (value 19 n (omega arith) h)
