-- The s_groups of a node, from the words of the table. Definitions only. Assumes nothing.
use Rattle.std.specs.Prelude.{cond, List, [], ◌∷◌, map, ℕ, ◌*◌, ◌%◌, count_by}
use Rattle.nodes.specs.Sets.{has, union_all}
use Rattle.semantics.specs.Sizes.{group_names}

-- a set that has node i, or the empty set
abbrev pub if_with : ℕ → ℕ → ℕ
if_with i m = cond (has m i) m 0

-- the nodes of the sets that have node i
abbrev pub shared_members : ℕ → List ℕ → ℕ
shared_members i ms = union_all (map (if_with i) ms)

-- the name and the members of each s_group that has node i, from their contents words and their members
abbrev pub own_words : ℕ → List ℕ → List ℕ → List ℕ
own_words i [] ms = []
own_words i (c ∷ cs) [] = []
own_words i (c ∷ cs) (m ∷ ms) = cond (has m i) (c % group_names ∷ m ∷ own_words i cs ms) (own_words i cs ms)

-- how many words that list has, from the members
abbrev pub own_length : ℕ → List ℕ → ℕ
own_length i ms = 2 * count_by (λ m. has m i) ms
