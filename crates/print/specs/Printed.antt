-- What is printed: numbers in decimal, and the line of an answer. Assumes nothing.
use Rattle.std.specs.Prelude.{cond, List, [], ◌∷◌, ◌++◌, ℕ, zero, suc, ◌+◌, ◌/◌, ◌%◌, ltb}
use Rattle.answers.specs.Answers.{number}
use Rattle.answers.specs.Outputs.{output_word, numbers}
use Rattle.answers.specs.declared.Answer.{Answer}
use Rattle.text.specs.Text.{bytes, space}
use Rattle.text.specs.Numbers.{digit_0}

-- n in decimal, in at most k + 1 digits
unfoldable pub decimal_in : ℕ → ℕ → List ℕ
decimal_in zero n = (digit_0 + n % 10) ∷ []
decimal_in (suc k) n = cond (ltb n 10) ((digit_0 + n) ∷ []) (decimal_in k (n / 10) ++ ((digit_0 + n % 10) ∷ []))

-- a number of 64 bits in decimal: it has at most 20 digits
unfoldable pub decimal : ℕ → List ℕ
decimal n = decimal_in 19 n

-- each number behind a space
unfoldable pub spaced : List ℕ → List ℕ
spaced [] = []
spaced (n ∷ ns) = (space ∷ decimal n) ++ spaced ns

-- the line of an answer: the word of its value, the numbers of its value, the words of its list, the number of its reason
unfoldable pub answer_line : List ℕ → Answer → List ℕ
answer_line list a = output_word a.value ++ (spaced (numbers a.value ++ (list ++ (number a.reason ∷ []))) ++ bytes "\n")

-- what a line that is no request prints
abbrev pub bad_line : List ℕ
bad_line = bytes "bad-line\n"

-- all that a script of more than 64 KiB prints
abbrev pub too_long : List ℕ
too_long = bytes "too-long\n"
