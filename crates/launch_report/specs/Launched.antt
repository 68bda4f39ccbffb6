-- What is said of a launch that goes through: the s_groups of its table, in the atoms of the book. Definitions only. Assumes nothing.
use Rattle.std.specs.Prelude.{cond, List, [], ◌∷◌, ◌++◌, map, ℕ, zero, suc, ◌-◌, eqb, get_or}
use Rattle.nodes.specs.NodeSets.{node_limit, has}
use Rattle.nodes.specs.Sets.{some_has}
use Rattle.text.specs.Text.{bytes}
use Rattle.semantics.specs.Sizes.{names_per_group}
use Rattle.semantics.specs.State.{Group}
use Rattle.semantics.specs.Table.{state_of}
use Rattle.semantics.specs.Test.{sound}
use Rattle.print.specs.Printed.{decimal}
use Rattle.book.specs.Book.{lines, group_atoms_of}

-- an atom in quotes, behind a space
abbrev pub quoted : List ℕ → List ℕ
quoted atom = bytes " '" ++ (atom ++ bytes "'")

-- the atom of node i, if it is in the set; the atom of a node that the book doesn't have is empty
unfoldable pub member : List ℕ → ℕ → ℕ → List ℕ
member book set i = cond (has set i) (quoted (get_or (lines book) i [])) []

-- the atoms of those of the k nodes from i on that are in the set
unfoldable pub members_from : ℕ → ℕ → List ℕ → ℕ → List ℕ
members_from zero i book set = []
members_from (suc k) i book set = member book set i ++ members_from k (suc i) book set

-- the number and the atom of an s_group: the first group atom, behind those of the n nodes, is that of number 1; 0 has none
unfoldable pub named : List ℕ → ℕ → ℕ → List ℕ
named book n s = decimal s ++ cond (eqb s 0) [] (quoted (get_or (group_atoms_of n book) (s - 1) []))

-- the line of an s_group: its number, its atom, the atoms of its members
unfoldable pub group_line : List ℕ → ℕ → ℕ → ℕ → List ℕ
group_line book n s set = bytes "group " ++ (named book n s ++ (members_from node_limit 0 book set ++ bytes "\n"))

-- a line for each s_group
unfoldable pub group_lines : List ℕ → ℕ → List Group → List ℕ
group_lines book n [] = []
group_lines book n (g ∷ gs) = group_line book n g.name g.members ++ group_lines book n gs

-- the line of an s_group of a node: its number, its atom
unfoldable pub own_line : List ℕ → ℕ → ℕ → List ℕ
own_line book n s = bytes "own " ++ (named book n s ++ bytes "\n")

-- the same, where node i is one of these members
unfoldable pub own_part : List ℕ → ℕ → ℕ → ℕ → ℕ → List ℕ
own_part book n i s set = cond (has set i) (own_line book n s) []

-- a line for each s_group that has node i
unfoldable pub own_each : List ℕ → ℕ → ℕ → List Group → List ℕ
own_each book n i [] = []
own_each book n i (g ∷ gs) = own_part book n i g.name g.members ++ own_each book n i gs

-- and one that says so where none has it
unfoldable pub own_lines : List ℕ → ℕ → ℕ → List Group → List ℕ
own_lines book n i gs = cond (some_has (map (λ g. g.members) gs) i) (own_each book n i gs) (bytes "own none\n")

-- the s_groups of a table; a run that is no sound table has none
unfoldable pub groups_in : List ℕ → List Group
groups_in t = cond (sound names_per_group t) (state_of names_per_group t).groups []

-- what is said of a launch of the starting node that left the table t: that it went through, its s_groups, those of the node
unfoldable pub launched_lines : List ℕ → ℕ → ℕ → List ℕ → List ℕ
launched_lines book n start t = bytes "ok 0\n" ++ (group_lines book n (groups_in t) ++ own_lines book n start (groups_in t))
