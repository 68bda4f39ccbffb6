-- What is said of a process: a line for each name that it has, or why it cannot be told. Definitions only. Assumes nothing.
use Rattle.std.specs.Prelude.{cond, List, [], ◌∷◌, ◌++◌, ℕ, eqb, length}
use Rattle.text.specs.Text.{bytes}
use Rattle.entries.specs.Entries.{host}
use Rattle.answers.specs.Answers.{number}
use Rattle.answers.specs.declared.Answer.{Answer}
use Rattle.answers.specs.declared.Reason.{Reason}
use Rattle.answers.specs.declared.Reason.TheVariants.{Done, Unsound, NodeUnknown}
use Rattle.print.specs.Printed.{decimal, answer_line}

-- the line of a name: the s_group, and the name in it
unfoldable pub name_line : ℕ → ℕ → List ℕ
name_line s n = bytes "s_group " ++ (decimal s ++ (bytes " name " ++ (decimal n ++ bytes "\n")))

-- a line for each s_group and name of a list, which has two words for each
unfoldable pub name_lines : List ℕ → List ℕ
name_lines [] = []
name_lines (s ∷ []) = []
name_lines (s ∷ n ∷ ws) = name_line s n ++ name_lines ws

-- and one that says so where there is none
unfoldable pub names_told : List ℕ → List ℕ
names_told ws = cond (eqb (length ws) 0) (bytes "no name\n") (name_lines ws)

-- that the host of the pid is no node of the table
unfoldable pub host_words : ℕ → List ℕ
host_words p = bytes "the pid's host, node " ++ (decimal (host p) ++ bytes ", is not on the roster\n")

-- why the names of the pid cannot be told: no other reason refuses a table's words (`refused_under` of sgroup_who)
unfoldable pub why : ℕ → Reason → List ℕ
why p r =
    cond (eqb (number r) (number Unsound)) (bytes "the script opens no table\n")
    (cond (eqb (number r) (number NodeUnknown)) (host_words p) [])

-- what is said of an answer with its list: the names, or the line of the refusal, and why
unfoldable pub who_lines : ℕ → List ℕ → Answer → List ℕ
who_lines p list a = cond (eqb (number a.reason) (number Done)) (names_told list) (answer_line list a ++ why p a.reason)
