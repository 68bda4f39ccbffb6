-- What is to be made of the groups of a launch file: the number and the nodes of each, by the book, and whether they can be made. Definitions only.
-- Assumes nothing.
use Rattle.std.specs.Prelude.{Result, Ok, Err, Bool, true, not, ◌&&◌, cond, List, [], ◌∷◌, ℕ, suc, ltb, length, get_or}
use Rattle.nodes.specs.Sets.{with_node}
use Rattle.semantics.specs.Sizes.{group_limit}
use Rattle.tokens.specs.Reserved.{among}
use Rattle.grammar.specs.File.{Group}
use Rattle.book.specs.Book.{lines, place_of, node_atoms, group_atoms_of}
use Rattle.duplicates.specs.Duplicates.{covered, kept, clash}
use Rattle.plan.specs.declared.Misfit.{Misfit}
use Rattle.plan.specs.declared.Misfit.TheVariants.{Clash, Unknown, TooMany}

-- the number of a group: its atom's place among the group atoms, from 1
abbrev pub number_of : ℕ → List ℕ → Group → ℕ
number_of N book g = suc (place_of g.name (group_atoms_of N book))

-- the nodes of a set and of these atoms, by their places
unfoldable pub set_with : List (List ℕ) → ℕ → List (List ℕ) → ℕ
set_with atoms w [] = w
set_with atoms w (a ∷ ws) = set_with atoms (with_node w (place_of a atoms)) ws

-- the nodes of a group
abbrev pub set_of : ℕ → List ℕ → Group → ℕ
set_of N book g = set_with (node_atoms N book) 0 g.nodes

-- its atom is among the group atoms, and those of its nodes are among the node atoms
abbrev pub listed : ℕ → List ℕ → Group → Bool
listed N book g = among (group_atoms_of N book) g.name && covered g.nodes (node_atoms N book)

-- the same of every group
unfoldable pub all_listed : ℕ → List ℕ → List Group → Bool
all_listed N book [] = true
all_listed N book (g ∷ gs) = listed N book g && all_listed N book gs

-- number and set of each group, two words a group
unfoldable pub plan_words : ℕ → List ℕ → List Group → List ℕ
plan_words N book [] = []
plan_words N book (g ∷ gs) = number_of N book g ∷ set_of N book g ∷ plan_words N book gs

-- whether these groups can be made, and how many they are
unfoldable pub fitting : ℕ → List ℕ → List Group → Result ℕ Misfit
fitting N book gs =
    cond (not (all_listed N book gs)) (Err Unknown)
    (cond (ltb group_limit (length gs)) (Err TooMany)
    (Ok (length gs)))

-- what speaks against the groups of a file, first of all, or how many are to be made; start is the starting node
unfoldable pub verdict : ℕ → List ℕ → ℕ → List Group → Result ℕ Misfit
verdict N book start gs = cond (clash gs (get_or (lines book) start [])) (Err Clash) (fitting N book (kept gs))
