-- The line and the column of a place in a text, each from 1. Definitions only. Assumes nothing.
use Rattle.std.specs.Prelude.{cond, List, [], ◌∷◌, ℕ, ◌+◌, eqb, take}
use Rattle.text.specs.Text.{newline}

-- what a number becomes behind these bytes, by a rule for each byte
unfoldable pub behind : (ℕ → ℕ → ℕ) → ℕ → List ℕ → ℕ
behind f n [] = n
behind f n (b ∷ bs) = behind f (f n b) bs

-- a newline begins the next line
abbrev pub next_line : ℕ → ℕ → ℕ
next_line n b = cond (eqb b newline) (n + 1) n

-- and its first column
abbrev pub next_column : ℕ → ℕ → ℕ
next_column n b = cond (eqb b newline) 1 (n + 1)

-- the line of a place: behind the bytes in front of it
abbrev pub line_of : List ℕ → ℕ → ℕ
line_of t at = behind next_line 1 (take at t)

-- its column
abbrev pub column_of : List ℕ → ℕ → ℕ
column_of t at = behind next_column 1 (take at t)
