-- Groups of one name in a launch file, by document 000, section 4.1: those with equal node sets make one group, unequal ones make none. Definitions only.
-- Assumes nothing.
use Rattle.std.specs.Prelude.{Bool, true, false, not, ◌&&◌, ◌||◌, cond, List, [], ◌∷◌, ◌++◌, ℕ}
use Rattle.tokens.specs.Reserved.{same, among}
use Rattle.grammar.specs.File.{Group}

-- every one of these atoms is among those
abbrev pub covered : List (List ℕ) → List (List ℕ) → Bool
covered [] vs = true
covered (w ∷ ws) vs = among vs w && covered ws vs

-- the same nodes, in whatever order and however often
abbrev pub equal_nodes : List (List ℕ) → List (List ℕ) → Bool
equal_nodes ws vs = covered ws vs && covered vs ws

-- every group of the name w has these nodes
abbrev pub agreed : List Group → List ℕ → List (List ℕ) → Bool
agreed [] w ws = true
agreed (k ∷ ks) w ws = (not (same k.name w) || equal_nodes k.nodes ws) && agreed ks w ws

-- a group has the name w
abbrev pub named : List Group → List ℕ → Bool
named [] w = false
named (k ∷ ks) w = same k.name w || named ks w

-- a group of the name w with these nodes is made: all of its name agree, and none of them stood before
abbrev pub made : List Group → List Group → List ℕ → List (List ℕ) → Bool
made all before w ws = agreed all w ws && not (named before w)

-- the groups that are made, of those to come behind the ones before, among all
abbrev pub kept_of : List Group → List Group → List Group → List Group
kept_of all before [] = []
kept_of all before (g ∷ gs) =
    cond (made all before g.name g.nodes) (g ∷ kept_of all (before ++ (g ∷ [])) gs) (kept_of all (before ++ (g ∷ [])) gs)

abbrev pub kept : List Group → List Group
kept gs = kept_of gs [] gs

-- the node v is in a group of the name w with these nodes, and not all of its name agree
abbrev pub torn : List Group → List ℕ → List (List ℕ) → List ℕ → Bool
torn all w ws v = not (agreed all w ws) && among ws v

-- the node v is in such a group
abbrev pub clashing : List Group → List Group → List ℕ → Bool
clashing all [] v = false
clashing all (g ∷ gs) v = torn all g.name g.nodes v || clashing all gs v

abbrev pub clash : List Group → List ℕ → Bool
clash gs v = clashing gs gs v
