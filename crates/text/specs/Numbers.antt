-- The number that bytes spell in decimal, and its width. Assumes nothing.
use Rattle.std.specs.Prelude.{Bool, true, false, not, ◌&&◌, cond, List, [], ◌∷◌, ℕ, ◌+◌, ◌-◌, ◌*◌, ◌^◌, eqb, leb, ltb, Option, Some, None}

-- the digit 0 in ASCII
abbrev pub digit_0 : ℕ
digit_0 = 48

-- the digit 9
abbrev pub digit_9 : ℕ
digit_9 = 57

-- numbers of 64 bits lie below this
abbrev pub word_limit : ℕ
word_limit = 2 ^ 64

-- numbers of 32 bits
abbrev pub half_limit : ℕ
half_limit = 2 ^ 32

-- every byte is a digit
unfoldable pub all_digits : List ℕ → Bool
all_digits [] = true
all_digits (b ∷ bs) = (leb digit_0 b && leb b digit_9) && all_digits bs

-- one byte, or more with no 0 in front
unfoldable pub plain : List ℕ → Bool
plain [] = false
plain (b ∷ []) = true
plain (b ∷ x ∷ xs) = not (eqb b digit_0)

-- the value of digits behind those that have the value v: each is worth ten times the next
unfoldable pub value : ℕ → List ℕ → ℕ
value v [] = v
value v (b ∷ bs) = value (v * 10 + (b - digit_0)) bs

-- digits, with no leading 0, of a number of 64 bits
unfoldable pub is_numeral : List ℕ → Bool
is_numeral s = plain s && (all_digits s && ltb (value 0 s) word_limit)

-- the number of 64 bits that bytes spell
unfoldable pub numeral : List ℕ → Option ℕ
numeral s = cond (is_numeral s) (Some (value 0 s)) None

-- a number that fits 32 bits
abbrev pub narrow : Option ℕ → Option ℕ
narrow (Some v) = cond (ltb v half_limit) (Some v) None
narrow None = None
