-- How many bytes are said of a process, at most. Assumes nothing.
use Rattle.std.specs.Prelude.{Bool, true, false, cond, List, [], ◌∷◌, ◌++◌, ℕ, ◌+◌, ◌*◌, ◌≤◌, eqb, length}
use Rattle.std.proofs.Common.{arith, length-append}
use Rattle.text.specs.Text.{bytes}
use Rattle.entries.specs.Entries.{host}
use Rattle.answers.specs.Answers.{number}
use Rattle.answers.specs.declared.Answer.{Answer}
use Rattle.answers.specs.declared.Reason.{Reason}
use Rattle.answers.specs.declared.Reason.TheVariants.{Done, Unsound, NodeUnknown}
use Rattle.print.specs.Printed.{decimal, answer_line}
use Rattle.print.specs.Decimals.{decimal-few, answer-few}
use Rattle.who_report.specs.Who.{name_line, name_lines, names_told, host_words, why, who_lines}

decimal-short : (n : ℕ) → length (decimal n) ≤ 20
unfolding decimal
decimal-short n = decimal-few 19 n

-- the words of a line and two numbers, for two words of a list
name-few : (s n : ℕ) → length (name_line s n) ≤ 55
unfolding name_line
name-few s n = simp length-append (omega (arith, decimal-short s, decimal-short n))

lines-few : (ws : List ℕ) → length (name_lines ws) ≤ 28 * length ws
unfolding name_lines
lines-few [] = omega arith
lines-few (s ∷ []) = omega arith
lines-few (s ∷ n ∷ ws) = simp length-append (omega (arith, name-few s n, lines-few ws))

names_few : (ws : List ℕ) → length (names_told ws) ≤ 8 + 28 * length ws
unfolding names_told
names_few ws = go (eqb (length ws) 0)
  where
    go : (t : Bool) → length (cond t (bytes "no name\n") (name_lines ws)) ≤ 8 + 28 * length ws
    go true = omega arith
    go false = omega (arith, lines-few ws)

host-few : (p : ℕ) → length (host_words p) ≤ 64
unfolding host_words
host-few p = simp length-append (omega (arith, decimal-short (host p)))

why-few : (p : ℕ) (r : Reason) → length (why p r) ≤ 64
unfolding why
why-few p r = go (eqb (number r) (number Unsound)) (eqb (number r) (number NodeUnknown))
  where
    go : (t u : Bool) → length (cond t (bytes "the script opens no table\n") (cond u (host_words p) [])) ≤ 64
    go true u = omega arith
    go false true = host-few p
    go false false = omega arith

-- a line for every two words, or the line of a refusal, and why
pub who-few : (p : ℕ) (list : List ℕ) (a : Answer) → length (who_lines p list a) ≤ 137 + 28 * length list
unfolding who_lines
who-few p list a = go (eqb (number a.reason) (number Done))
  where
    go : (t : Bool) → length (cond t (names_told list) (answer_line list a ++ why p a.reason)) ≤ 137 + 28 * length list
    go true = omega (arith, names_few list)
    go false = simp length-append (omega (arith, answer-few list a, why-few p a.reason))
