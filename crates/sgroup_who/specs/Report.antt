-- What the program says of a pid and a script. Definitions only. Assumes nothing.
use Rattle.std.specs.Prelude.{List, ℕ, ◌*◌, replicate}
use Rattle.semantics.specs.Sizes.{group_limit, names_per_group, table_words, row_words}
use Rattle.semantics.specs.Call.{Call}
use Rattle.indexes.specs.Index.{index_of_table}
use Rattle.indexes.specs.IndexCalls.{read}
use Rattle.script.specs.Scripts.{lines_from, left}
use Rattle.who_report.specs.Who.{who_lines}

-- so many words are enough for any list: a pid has at most one name in an s_group
abbrev pub list_room : ℕ
list_room = row_words * group_limit

-- what reading by pid gives in a table with its index
abbrev pub reading : ℕ → List ℕ → Call
reading p t = read list_room p t (index_of_table names_per_group t)

-- what is said of the pid p in a table
unfoldable pub told : ℕ → List ℕ → List ℕ
told p t = who_lines p (reading p t).list (reading p t).answer

-- the table that a script leaves, where it begins with a table of zeros
unfoldable pub table_of : List ℕ → List ℕ
table_of script = left (replicate (table_words names_per_group) 0) (lines_from script 0)

-- what is said of the pid p after a script
abbrev pub report : ℕ → List ℕ → List ℕ
report p script = told p (table_of script)
