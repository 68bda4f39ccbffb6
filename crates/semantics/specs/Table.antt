-- The words of a state, and the state of words. cap is how many names an s_group can hold. Assumes nothing.
use Rattle.std.specs.Prelude.{List, [], ◌∷◌, ◌++◌, map, ℕ, ◌+◌, ◌-◌, ◌*◌, ◌/◌, ◌%◌, length, get_or, take, drop, replicate}
use Rattle.nodes.specs.Sets.{node_limit}
use Rattle.entries.specs.Entries.{words, entries}
use Rattle.semantics.specs.Sizes.{group_limit, group_names, contents_at, members_at, links_at, free_at, bodies_at}
use Rattle.semantics.specs.State.{Group, State}

-- ---- the words of a state

-- l with zeros after it, n words in all
abbrev pub pad : ℕ → List ℕ → List ℕ
pad n l = l ++ replicate (n - length l) 0

-- a contents word: the s_group's name, and above it the number of its registered names
abbrev pub contents : Group → ℕ
contents g = g.name + group_names * length g.names

-- the words of the namespaces, cap an s_group
abbrev pub bodies : ℕ → List Group → List ℕ
bodies cap [] = []
bodies cap (g ∷ gs) = words cap g.names ++ bodies cap gs

-- runs one after another
abbrev pub cat : List (List ℕ) → List ℕ
cat [] = []
cat (x ∷ xs) = x ++ cat xs

-- the parts of a table: the head, the contents, the members, the connections, the free normal groups, the bodies
unfoldable pub sections : ℕ → State → List (List ℕ)
sections cap st =
    (st.size ∷ st.hidden ∷ length st.groups ∷ 0 ∷ [])
    ∷ pad group_limit (map contents st.groups)
    ∷ pad group_limit (map (λ g. g.members) st.groups)
    ∷ st.links
    ∷ st.free
    ∷ pad (group_limit * cap) (bodies cap st.groups)
    ∷ []

-- the table of a state
unfoldable pub layout : ℕ → State → List ℕ
layout cap st = cat (sections cap st)

-- ---- the state of words

-- an s_group for each contents word and its members, with its names from the next cap words of the bodies
abbrev pub groups_of : ℕ → List ℕ → List ℕ → List ℕ → List Group
groups_of cap [] ms b = []
groups_of cap (c ∷ cs) [] b = []
groups_of cap (c ∷ cs) (m ∷ ms) b =
    record { name = c % group_names; members = m; names = entries (c / group_names) b } ∷ groups_of cap cs ms (drop cap b)

-- the state that the words stand for
unfoldable pub state_of : ℕ → List ℕ → State
state_of cap t =
    record {
      size = get_or t 0 0;
      hidden = get_or t 1 0;
      groups = groups_of cap (take (get_or t 2 0) (drop contents_at t)) (take (get_or t 2 0) (drop members_at t)) (drop bodies_at t);
      links = take node_limit (drop links_at t);
      free = take node_limit (drop free_at t);
    }
