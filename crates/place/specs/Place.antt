-- Where the s_group of a name stands among s_groups in order of name, or where it would be put; and for which node it is open.
-- Definitions only. Assumes nothing.
use Rattle.std.specs.Prelude.{cond, List, [], ◌∷◌, ℕ, ◌+◌, ◌%◌, eqb, ltb, Result, Ok, Err}
use Rattle.nodes.specs.Sets.{has}
use Rattle.semantics.specs.Sizes.{group_names}
use Rattle.semantics.specs.State.{Group}
use Rattle.semantics.specs.Places.{group_at}
use Rattle.answers.specs.declared.Reason.{Reason}
use Rattle.answers.specs.declared.Reason.TheVariants.{GroupUnknown, NotMember}

-- where an s_group stands, or else where it would be put
abbrev pub Place : Type 0
Place = Result ℕ ℕ

-- where the s_group stands that a node is a member of, or why the node has none of the name
abbrev pub Access : Type 0
Access = Result ℕ Reason

-- the place of s among contents words, the first place being i
abbrev pub place_in : ℕ → ℕ → List ℕ → Place
place_in i s [] = Err i
place_in i s (w ∷ ws) = cond (ltb (w % group_names) s) (place_in (i + 1) s ws) (cond (eqb (w % group_names) s) (Ok i) (Err i))

-- the place of s among s_groups, the first place being i
abbrev pub place_from : ℕ → ℕ → List Group → Place
place_from i s [] = Err i
place_from i s (g ∷ gs) = cond (ltb g.name s) (place_from (i + 1) s gs) (cond (eqb g.name s) (Ok i) (Err i))

-- the place of s among s_groups
abbrev pub place_of : ℕ → List Group → Place
place_of s gs = place_from 0 s gs

-- what node i has of the s_group at a place
abbrev pub open_at : ℕ → List Group → Place → Access
open_at i gs (Ok k) = cond (has (group_at gs k).members i) (Ok k) (Err NotMember)
open_at i gs (Err k) = Err GroupUnknown

-- what node i has of the s_group s
abbrev pub place_for : ℕ → ℕ → List Group → Access
place_for i s gs = open_at i gs (place_of s gs)
