-- What the index of a book says. Assumes nothing.
use Rattle.std.specs.Prelude.{◌≡◌, true, List, [], ℕ, ◌+◌, ◌-◌, ◌%◌, ◌≤◌, ◌<◌, length, get_or, take, drop}
use Rattle.tokens.specs.Reserved.{among}
use Rattle.atoms.specs.Marks.{mark_of}
use Rattle.book_index.specs.Layout.{index_size, hint_count, mark_count, number_at, has_mark}
use Rattle.book.specs.Book.{lines, fit, group_atoms_of}

-- how many lines an index knows the places of
abbrev pub indexed_lines : ℕ
indexed_lines = 126

-- the number behind their places and the place behind them: how many group atoms there are
abbrev pub group_number : ℕ
group_number = 127

-- the mark of an atom among those of an index
abbrev pub atom_mark : List ℕ → ℕ
atom_mark a = mark_of a % mark_count

-- each of the lines has its mark
abbrev pub Marked : List (List ℕ) → List ℕ → Type 0
Marked ls x = (a : List ℕ) → among ls a ≡ true → has_mark x (atom_mark a) ≡ true

-- line j stands at number j, and the next at the next number
pub record Holds (t x : List ℕ) (j : ℕ) : Type 0 where
  pub before : number_at x j < number_at x (j + 1)
  pub within : number_at x (j + 1) ≤ length t
  pub line_is : take (number_at x (j + 1) - 1 - number_at x j) (drop (number_at x j) t) ≡ get_or (lines t) j []

-- the first n lines stand where the numbers say
abbrev pub Places : ℕ → List ℕ → List ℕ → Type 0
Places n t x = (j : ℕ) → j < n → Holds t x j

-- the numbers of an index are those of a book for n nodes
pub record Noted (n : ℕ) (t x : List ℕ) : Type 0 where
  pub size : length x ≡ index_size
  pub fits : fit n t ≡ true
  pub holds : (j : ℕ) → j < indexed_lines → j < length (lines t) → Holds t x j
  pub groups : number_at x group_number ≡ length (group_atoms_of n t)

-- and its hints lead to lines: a hint is 0, or the number of a line from 1
pub record Indexed (n : ℕ) (t x : List ℕ) : Type 0 where
  pub noted : Noted n t x
  pub hints : (k : ℕ) → k < hint_count → (get_or x k 0 ≤ indexed_lines) × (get_or x k 0 ≤ length (lines t))
