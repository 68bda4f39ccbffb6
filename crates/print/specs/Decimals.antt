-- Laws of `decimal`, `spaced` and `answer_line`: what the kit's `decimal` writes, how parts join, and how long a line can be. Assumes nothing.
use Rattle.std.specs.Prelude.{◌≡◌, refl, Bool, true, false, cond, List, [], ◌∷◌, ◌++◌, ℕ, zero, suc, ◌+◌, ◌*◌, ◌-◌, ◌/◌, ◌%◌, ◌^◌, ◌≤◌, ◌<◌, ltb, length, get_or, drop}
use Rattle.std.proofs.Common.{sym, ap, ◌∙◌, append_assoc, pow-suc, le_of_suc-le-suc, lt_of_not-le, add-one, arith, lt-ltb, le-ltb, length-append, drop_of_length-le, drop-cons}
use Rattle.std.proofs.Math.Nat.{pow-le-pow_right}
use Rattle.io.specs.Digits.{last_digits, hex_digit_ascii, IsDigitCount}
use Rattle.answers.specs.Answers.{number}
use Rattle.answers.specs.Outputs.{output_word, numbers}
use Rattle.answers.specs.declared.Answer.{Answer}
use Rattle.answers.specs.declared.Value.{Value}
use Rattle.answers.specs.declared.Value.TheVariants.{Ok, True, False, Error, Undefined, Pid, Grouped, Nodes, Listed}
use Rattle.text.specs.Text.{newline}
use Rattle.print.specs.Printed.{decimal_in, decimal, spaced, answer_line}
use Rattle.print.specs.declared.Printer.{Printer}
use Rattle.print.specs.Puts.{Puts, puts_next, puts_as}

-- ---- what `io::decimal` writes is `decimal`

glyph-is : (n : ℕ) → hex_digit_ascii (n % 10) ≡ 48 + n % 10
glyph-is n = rw (lt-ltb (n % 10) 10 (omega arith))

pow-ge-one : (j : ℕ) → 1 ≤ 10 ^ j
pow-ge-one j = pow-le-pow_right {n = 10} (omega arith) {i = 0} {j = j} (omega arith)

-- the fewest digits that hold n are its decimal
pub fewest_decimal : (k f n : ℕ) → IsDigitCount 10 1 n k → k ≤ suc f → last_digits 10 k n ≡ decimal_in f n
unfolding decimal_in
fewest_decimal zero f n h l = absurd (omega arith)
fewest_decimal (suc zero) zero n h l = ap (λ (d : ℕ). d ∷ []) (glyph-is n)
fewest_decimal (suc zero) (suc f) n h l =
    let e : n % 10 ≡ n = omega arith in
    rw (lt-ltb n 10 h.1) (ap (λ (d : ℕ). d ∷ []) (glyph-is n ∙ ap (λ (d : ℕ). 48 + d) e))
fewest_decimal (suc (suc j)) zero n h l = absurd (omega arith)
fewest_decimal (suc (suc j)) (suc f) n h l =
    let e₂ : 10 ^ suc (suc j) ≡ 10 ^ suc j * 10 = pow-suc 10 (suc j) in
    let e₁ : 10 ^ suc j ≡ 10 ^ j * 10 = pow-suc 10 j in
    let p : 10 ^ (suc (suc j) - 1) ≡ 10 ^ suc j = ap (λ (k : ℕ). 10 ^ k) (omega arith) in
    let q : 10 ^ (suc j - 1) ≡ 10 ^ j = ap (λ (k : ℕ). 10 ^ k) (omega arith) in
    let lo : 10 ^ (suc (suc j) - 1) ≤ n = h.2 (omega arith) in
    let rest : last_digits 10 (suc j) (n / 10) ≡ decimal_in f (n / 10) = fewest_decimal (suc j) f (n / 10) (omega arith, omega arith, λ w. omega arith) (omega arith) in
    rw (le-ltb n 10 (omega (arith, pow-ge-one j)), rest, glyph-is n)

-- and a number of 64 bits has at most 20
pub fewest-few : (k n : ℕ) → n < 2 ^ 64 → IsDigitCount 10 1 n k → k ≤ 20
fewest-few k n f h = le_of_suc-le-suc (lt_of_not-le {n = 21} {m = k} over)
  where
    over : 21 ≤ k → ⊥
    over l =
        let lo : 10 ^ (k - 1) ≤ n = h.2 (omega arith) in
        let p : 10 ^ 20 ≤ 10 ^ (k - 1) = pow-le-pow_right {n = 10} (omega arith) {i = 20} {j = k - 1} (omega arith) in
        omega arith

-- ---- parts of a line

pub spaced-append : (a b : List ℕ) → spaced (a ++ b) ≡ spaced a ++ spaced b
unfolding spaced
spaced-append [] b = refl
spaced-append (n ∷ a) b = rw (spaced-append a b, append_assoc)

-- numbers put behind numbers
pub spaced_next : {p q r : Printer} → (a b : List ℕ) → Puts p q (spaced a) → Puts q r (spaced b) → Puts p r (spaced (a ++ b))
spaced_next a b e f = puts_as (puts_next e f) (sym (spaced-append a b))

-- the word of a value and its numbers, the words of a list, the number of a reason and a newline are the line of an answer
pub answer_parts : (list : List ℕ) (a : Answer) → (output_word a.value ++ spaced (numbers a.value)) ++ (spaced list ++ (spaced (number a.reason ∷ []) ++ (newline ∷ []))) ≡ answer_line list a
unfolding answer_line
answer_parts list a = rw (spaced-append (numbers a.value), spaced-append list) simp append_assoc

-- the first of some numbers that are left
pub spaced_turn : (s : List ℕ) (i : ℕ) → i < length s → spaced (drop i s) ≡ spaced (get_or s i 0 ∷ []) ++ spaced (drop (i + 1) s)
spaced_turn s i h = rw (add-one, drop-cons s i 0, ← (spaced-append (get_or s i 0 ∷ []) (drop (suc i) s)))

pub spaced_end : (s : List ℕ) (i : ℕ) → length s ≤ i → spaced (drop i s) ≡ []
unfolding spaced
spaced_end s i h = rw (drop_of_length-le s h)

-- ---- how long a line can be

pub decimal-few : (k n : ℕ) → length (decimal_in k n) ≤ suc k
unfolding decimal_in
decimal-few zero n = omega arith
decimal-few (suc k) n = pick (ltb n 10) (decimal-few k (n / 10))
  where
    pick : (t : Bool) → length (decimal_in k (n / 10)) ≤ suc k → length (cond t ((48 + n) ∷ []) (decimal_in k (n / 10) ++ ((48 + n % 10) ∷ []))) ≤ suc (suc k)
    pick true h = omega arith
    pick false h = simp length-append (omega arith)

-- a space and at most 20 digits for each
spaced-few : (ns : List ℕ) → length (spaced ns) ≤ 21 * length ns
unfolding spaced decimal
spaced-few [] = omega arith
spaced-few (n ∷ ns) = simp length-append (omega (arith, decimal-few 19 n, spaced-few ns))

word_few : (v : Value) → (length (output_word v) ≤ 9) × (length (numbers v) ≤ 2)
word_few Ok = omega arith
word_few True = omega arith
word_few False = omega arith
word_few Error = omega arith
word_few Undefined = omega arith
word_few (Pid p) = omega arith
word_few (Grouped s set) = omega arith
word_few (Nodes set k) = omega arith
word_few (Listed k) = omega arith

-- the longest word, a space and 20 digits for each of two numbers, the words of the list and the reason, and the newline
pub answer-few : (list : List ℕ) (a : Answer) → length (answer_line list a) ≤ 9 + 21 * (2 + length list + 1) + 1
unfolding answer_line
answer-few list a =
    let ns = numbers a.value ++ (list ++ (number a.reason ∷ [])) in
    let n : length ns ≡ length (numbers a.value) + (length list + 1) = length-append (numbers a.value) (list ++ (number a.reason ∷ [])) ∙ rw length-append in
    simp length-append (omega (arith, word_few a.value, spaced-few ns, n))
