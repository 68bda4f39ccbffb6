-- Reading digits one by one, with a test for the width at each, gives the same number as their value. Assumes nothing.
use Rattle.std.specs.Prelude.{◌≡◌, refl, Bool, true, false, ◌&&◌, cond, List, [], ◌∷◌, ℕ, ◌≤◌, ◌<◌, ◌-◌, ◌+◌, ◌*◌, leb, ltb, Option, Some, None}
use Rattle.std.proofs.Common.{◌∙◌, le_refl, arith, lt-ltb, le-ltb, ltb-true, ltb-false}
use Rattle.text.specs.Numbers.{digit_0, digit_9, word_limit, all_digits, plain, value, is_numeral, numeral}

-- v with one digit more, where b is a digit and the number stays within 64 bits
unfoldable pub more : ℕ → ℕ → Option ℕ
more v b =
    cond (leb digit_0 b)
    (cond (leb b digit_9)
    (cond (ltb (v * 10 + (b - digit_0)) word_limit) (Some (v * 10 + (b - digit_0))) None)
    None)
    None

unfoldable pub more_of : Option ℕ → ℕ → Option ℕ
more_of (Some v) b = more v b
more_of None b = None

-- the digits of a list, one by one behind those of n
unfoldable pub digits_from : Option ℕ → List ℕ → Option ℕ
digits_from n [] = n
digits_from n (b ∷ bs) = digits_from (more_of n b) bs

-- ---- the value

pub bad-stays : (s : List ℕ) → digits_from None s ≡ None
unfolding digits_from more_of
bad-stays [] = refl
bad-stays (b ∷ bs) = bad-stays bs

value_grows : (v : ℕ) (s : List ℕ) → v ≤ value v s
unfolding value
value_grows v [] = le_refl v
value_grows v (b ∷ bs) = omega (arith, value_grows (v * 10 + (b - digit_0)) bs)

-- what the digits of s spell behind those that have the value v
spelled : ℕ → List ℕ → Option ℕ
spelled v s = cond (all_digits s && ltb (value v s) word_limit) (Some (value v s)) None

-- the number is too large already
too_large : (w : ℕ) (s : List ℕ) → word_limit ≤ w → None ≡ spelled w s
unfolding spelled
too_large w s h = rw (le-ltb (value w s) word_limit (omega (arith, value_grows w s))) (pick (all_digits s))
  where
    pick : (t : Bool) → None ≡ cond (t && false) (Some (value w s)) None
    pick true = refl
    pick false = refl

fold : (s : List ℕ) (v : ℕ) → v < word_limit → digits_from (Some v) s ≡ spelled v s
unfolding digits_from more_of more spelled all_digits value
fold [] v h = rw (lt-ltb v word_limit h)
fold (b ∷ bs) v h = go (leb digit_0 b) (leb b digit_9) (ltb (v * 10 + (b - digit_0)) word_limit) refl (fold bs (v * 10 + (b - digit_0)))
  where
    go : (t u w : Bool) → ltb (v * 10 + (b - digit_0)) word_limit ≡ w
        → (v * 10 + (b - digit_0) < word_limit → digits_from (Some (v * 10 + (b - digit_0))) bs ≡ spelled (v * 10 + (b - digit_0)) bs)
        → digits_from (cond t (cond u (cond w (Some (v * 10 + (b - digit_0))) None) None) None) bs
        ≡ cond (((t && u) && all_digits bs) && ltb (value (v * 10 + (b - digit_0)) bs) word_limit) (Some (value (v * 10 + (b - digit_0)) bs)) None
    go true true true e f = f (ltb-true _ _ e)
    go true true false e f = bad-stays bs ∙ too_large (v * 10 + (b - digit_0)) bs (ltb-false _ _ e)
    go true false w e f = bad-stays bs
    go false u w e f = bad-stays bs

-- the number that bytes spell, read one by one
pub numeral-by-digits : (s : List ℕ) → numeral s ≡ cond (plain s) (digits_from (Some 0) s) None
unfolding numeral is_numeral spelled
numeral-by-digits s = rw (fold s 0 (omega arith)) (pick (plain s))
  where
    pick : (t : Bool) → cond (t && (all_digits s && ltb (value 0 s) word_limit)) (Some (value 0 s)) None ≡ cond t (spelled 0 s) None
    pick true = refl
    pick false = refl
