-- The lines of a text, taken one by one. Assumes nothing.
use Rattle.std.specs.Prelude.{List, ℕ}
use Rattle.book.specs.Book.{lines}
use Rattle.book.specs.declared.Lines.{Lines}

-- the lines that are left
abbrev pub lines_left : Lines → List (List ℕ)
lines_left s = lines s.rest.now
