-- The first line of a script that is bad: which it is, and laws by which a search goes from line to line. Assumes nothing.
use Rattle.std.specs.Prelude.{◌≡◌, true, false, cond, List, [], ◌∷◌, ℕ, suc, ◌≤◌, ◌<◌, ◌+◌, ◌-◌, length, take, drop, Option, Some, None}
use Rattle.std.specs.Option.{is_none}
use Rattle.std.proofs.Common.{◌∙◌, add-one, arith, length-drop, drop_of_length-le, drop-drop}
use borrow.Author.Rules.{part_to_end}
use Rattle.line.specs.declared.Request.{Request}
use Rattle.script.specs.Scripts.{Line, lines_of, size_of}
use Rattle.script.specs.FirstLines.{first_line, lines-first, size_first, asks}

-- the number of the first of these lines that is bad, where the first of all has the number k
unfoldable pub first_bad : ℕ → List Line → Option ℕ
first_bad k [] = None
first_bad k (l ∷ ls) = cond (is_none (asks l)) (Some k) (first_bad (suc k) ls)

-- a script has a line left at the place i: its size, and what it asks
module _ (script : List ℕ) (i size : ℕ) (q : Option Request) (h : i < length script)
    (e : size ≡ size_of (first_line (take (length script - i) (drop i script)))) (f : q ≡ asks (first_line (take (length script - i) (drop i script)))) where
  left-size : size ≡ size_of (first_line (drop i script))
  left-size = e ∙ rw part_to_end

  left-asks : q ≡ asks (first_line (drop i script))
  left-asks = f ∙ rw part_to_end

  some_left : 0 < length (drop i script)
  some_left = omega (arith, length-drop i script)

  left-lines : lines_of (drop i script) ≡ first_line (drop i script) ∷ lines_of (drop (i + size) script)
  left-lines = lines-first (drop i script) some_left ∙ rw (← left-size, drop-drop)

  -- it has a byte at least, and ends within the script
  pub bad_size : (0 < size) × (i + size ≤ length script)
  bad_size = rw left-size (omega (arith, size_first (drop i script) some_left, length-drop i script))

  pub bad-here : (k : ℕ) → is_none q ≡ true → first_bad k (lines_of (drop i script)) ≡ Some k
  unfolding first_bad
  bad-here k b = rw (left-lines, ← left-asks, b)

  pub bad-further : (k : ℕ) → is_none q ≡ false → first_bad k (lines_of (drop i script)) ≡ first_bad (k + 1) (lines_of (drop (i + size) script))
  unfolding first_bad
  bad-further k b = rw (add-one, left-lines, ← left-asks, b)

-- past the end there is none
pub bad-nowhere : (script : List ℕ) (i k : ℕ) → length script ≤ i → first_bad k (lines_of (drop i script)) ≡ None
unfolding first_bad lines_of
bad-nowhere script i k h = rw (drop_of_length-le script h)
