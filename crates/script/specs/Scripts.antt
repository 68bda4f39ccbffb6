-- The lines of a script, what they print and leave when their commands are called one by one, and a run of them into a lent run. Assumes nothing.
use Rattle.std.specs.Prelude.{cond, List, [], ◌∷◌, ◌++◌, ℕ, ◌+◌, ◌*◌, eqb, leb, length, drop}
use Rattle.text.specs.Text.{newline}
use Rattle.line.specs.Requests.{request_of}
use Rattle.print.specs.Sheets.{Sheet, put}
use Rattle.print.specs.Printed.{bad_line, too_long}
use Rattle.turns.specs.Turns.{list_room, Turn, says, request_turn}

-- a script has at most so many bytes
abbrev pub script_limit : ℕ
script_limit = 65536

-- ---- lines

-- a line: the bytes before its newline; what stands behind the last newline; all that is left of a script that is too long
pub data Line : Type 0 where
  ended : List ℕ → Line
  cut : List ℕ → Line
  overlong : List ℕ → Line

-- one byte more in front of the first line
abbrev pub push : ℕ → List Line → List Line
push b [] = cut (b ∷ []) ∷ []
push b (ended l ∷ ls) = ended (b ∷ l) ∷ ls
push b (cut l ∷ ls) = cut (b ∷ l) ∷ ls
push b (overlong l ∷ ls) = overlong (b ∷ l) ∷ ls

-- the lines of bytes
unfoldable pub lines_of : List ℕ → List Line
lines_of [] = []
lines_of (b ∷ bs) = cond (eqb b newline) (ended [] ∷ lines_of bs) (push b (lines_of bs))

-- a script that is too long counts as one line
abbrev pub one_line : List ℕ → List Line
one_line [] = []
one_line (b ∷ bs) = overlong (b ∷ bs) ∷ []

-- the lines of a script from the place i on
unfoldable pub lines_from : List ℕ → ℕ → List Line
lines_from script i = cond (leb (length script) script_limit) (lines_of (drop i script)) (one_line (drop i script))

-- how many bytes a line takes
unfoldable pub size_of : Line → ℕ
size_of (ended l) = length l + 1
size_of (cut l) = length l
size_of (overlong l) = length l

-- ---- what they print and leave

-- a line asks for what its bytes say; one without a newline is bad; a script that is too long only says so
unfoldable pub line_turn : List ℕ → Line → Turn
line_turn t (ended l) = request_turn t (request_of l)
line_turn t (cut l) = says bad_line t
line_turn t (overlong l) = says too_long t

-- what lines print, each on the table that the one before left
unfoldable pub printed : List ℕ → List Line → List ℕ
printed t [] = []
printed t (l ∷ ls) = (line_turn t l).text ++ printed (line_turn t l).table ls

-- the table that lines leave
unfoldable pub left : List ℕ → List Line → List ℕ
left t [] = t
left t (l ∷ ls) = left (line_turn t l).table ls

-- ---- a run into a lent run of bytes

-- no line prints more than this: the longest word, a space and 20 digits for each of two numbers, the words of a list and a reason, a newline
abbrev pub line_room : ℕ
line_room = 9 + 21 * (2 + list_room + 1) + 1

-- where a run stops: the place in the script, the table, and the sheet with what was printed
pub record Stop : Type 0 where
  pub next : ℕ
  pub table : List ℕ
  pub sheet : Sheet

-- it stops at the place i, with the table t and the sheet p
unfoldable pub stop : ℕ → List ℕ → Sheet → Stop
stop i t p = record { next = i; table = t; sheet = p }

-- the lines from the place i on: each is printed behind the one before, as long as there is room for any line
unfoldable pub runs : List Line → ℕ → List ℕ → Sheet → Stop
runs [] i t p = stop i t p
runs (l ∷ ls) i t p =
    cond (leb (p.at + line_room) (length p.bytes))
    (runs ls (i + size_of l) (line_turn t l).table (put p (line_turn t l).text))
    (stop i t p)
