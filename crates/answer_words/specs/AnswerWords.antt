-- Answers as numbers, for callers in C and Rust: the four words of an answer, and what a call gives with a lent run for them. Assumes nothing.
use Rattle.std.specs.Prelude.{cond, List, [], ◌∷◌, ◌++◌, ℕ, ltb, length, drop, get_or}
use Rattle.answers.specs.Answers.{number}
use Rattle.answers.specs.Outputs.{kind, numbers}
use Rattle.commands.specs.declared.Command.{Command}
use Rattle.semantics.specs.Call.{Call, call, listed_over}
use Rattle.indexes.specs.IndexCalls.{Indexed, indexed}
use Rattle.answers.specs.declared.Answer.{Answer}
use Rattle.answers.specs.declared.Value.{Value}

-- how many words an answer takes
abbrev pub answer_words : ℕ
answer_words = 4

-- what is returned where the run for the answer is shorter: no reason has this number
abbrev pub no_room : ℕ
no_room = 4294967295

-- the first number of a value; zero where it has none
abbrev pub first : Value → ℕ
first v = get_or (numbers v) 0 0

-- the second
abbrev pub second : Value → ℕ
second v = get_or (numbers v) 1 0

-- the words of an answer: kind, first and second number, reason
abbrev pub answer_in : Answer → List ℕ
answer_in a = kind a.value ∷ first a.value ∷ second a.value ∷ number a.reason ∷ []

-- the number that is returned, and the runs for the answer, the list and the table afterwards
pub record Told : Type 0 where
  pub returned : ℕ
  pub answer : List ℕ
  pub list : List ℕ
  pub table : List ℕ

-- a call with lent runs for its answer and list, on a table: nothing is called where the answer has no room
unfoldable pub told : Call → List ℕ → List ℕ → List ℕ → Told
told c answer out table =
    cond (ltb (length answer) answer_words)
    (record { returned = no_room; answer = answer; list = out; table = table })
    (record { returned = number c.answer.reason; answer = answer_in c.answer ++ drop answer_words answer; list = listed_over c.list out; table = c.table })

-- the command of a caller, with lent runs for its answer and list, on a table
abbrev pub commanded : ℕ → Command → List ℕ → List ℕ → List ℕ → Told
commanded i c answer out table = told (call (length out) i c table) answer out table

-- what is told with an index beside the table, and the index afterwards
pub record ToldIndexed : Type 0 where
  pub told : Told
  pub index : List ℕ

-- a call with an index, with lent runs for its answer and list
unfoldable pub told_indexed : Indexed → List ℕ → List ℕ → List ℕ → List ℕ → ToldIndexed
told_indexed d answer out table index =
    record { told = told d.given answer out table; index = cond (ltb (length answer) answer_words) index d.index }

-- the command of a caller, with lent runs for its answer and list, on a table with an index
abbrev pub commanded_indexed : ℕ → Command → List ℕ → List ℕ → List ℕ → List ℕ → ToldIndexed
commanded_indexed i c answer out table index = told_indexed (indexed (length out) i c table index) answer out table index
