-- What is said of a launch that is refused, as far as its answer determines it. Definitions only. Assumes nothing.
use Rattle.std.specs.Prelude.{Bool, ◌&&◌, ◌||◌, cond, List, [], ◌∷◌, ◌++◌, ℕ, ltb}
use Rattle.text.specs.Text.{bytes}
use Rattle.answers.specs.Answers.{number, among}
use Rattle.answers.specs.declared.Reason.{Reason}
use Rattle.answers.specs.declared.Reason.TheVariants.{NoLaunchFile}
use Rattle.position.specs.Position.{line_of, column_of}
use Rattle.print.specs.Printed.{decimal}
use Rattle.book.specs.Book.{fit}

-- the first line: the number of the reason, and the place
unfoldable pub error_line : Reason → ℕ → List ℕ
error_line r p = bytes "error " ++ (decimal (number r) ++ (bytes " " ++ (decimal p ++ bytes "\n")))

-- the name of a text, the line and the column of a place in it
unfoldable pub place_words : List ℕ → List ℕ → ℕ → List ℕ
place_words name text p = name ++ (bytes ":" ++ (decimal (line_of text p) ++ (bytes ":" ++ (decimal (column_of text p) ++ bytes ": "))))

-- whether it is the file that is refused for what it is, and not the book of n nodes
unfoldable pub slip : Reason → ℕ → ℕ → List ℕ → Bool
slip r p n book = among r (NoLaunchFile ∷ []) && (ltb 0 p || fit n book)

-- the first line, and of a slip the place in its file
unfoldable pub head_lines : Reason → ℕ → Bool → List ℕ → List ℕ → List ℕ
head_lines r p t name file = error_line r p ++ cond t (place_words name file p ++ bytes "expected ") []

-- what is determined of a refusal, for n nodes with their book and a file of this name
abbrev pub refusal_head : Reason → ℕ → ℕ → List ℕ → List ℕ → List ℕ → List ℕ
refusal_head r p n book name file = head_lines r p (slip r p n book) name file
