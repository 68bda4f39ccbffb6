-- The state that a table stands for, as a record that computes: sets of nodes are words, a namespace is a list of entries. Assumes nothing.
use Rattle.std.specs.Prelude.{cond, List, [], ◌∷◌, map, ℕ, eqb, ltb, get_or}
use Rattle.std.proofs.Math.Option.{Option, none, some}
use Rattle.nodes.specs.Sets.{roster, diff, union_all}
use Rattle.entries.specs.Entries.{Entry}

-- an s_group: its name, the set of its members, its namespace
pub record Group : Type 0 where
  pub name : ℕ
  pub members : ℕ
  pub names : List Entry

-- the roster size, the hidden nodes, the s_groups by name; for each node its connections, and its free normal group or the empty set
pub record State : Type 0 where
  pub size : ℕ
  pub hidden : ℕ
  pub groups : List Group
  pub links : List ℕ
  pub free : List ℕ

-- ---- a state with one thing changed

abbrev pub with_groups : List Group → State → State
with_groups gs st = record { size = st.size; hidden = st.hidden; groups = gs; links = st.links; free = st.free }

abbrev pub with_links : List ℕ → State → State
with_links ls st = record { size = st.size; hidden = st.hidden; groups = st.groups; links = ls; free = st.free }

abbrev pub with_free : List ℕ → State → State
with_free fs st = record { size = st.size; hidden = st.hidden; groups = st.groups; links = st.links; free = fs }

-- the free normal group of node i, or the empty set
abbrev pub free_of : ℕ → State → ℕ
free_of i st = get_or st.free i 0

-- ---- s_groups by name

-- the s_group of the name
unfoldable pub find : ℕ → List Group → Option Group
find s [] = none
find s (g ∷ gs) = cond (eqb g.name s) (some g) (find s gs)

-- an s_group of the name s has become one of the members m and the names ns
abbrev pub become : ℕ → ℕ → List Entry → Group → Group
become s m ns g = record { name = g.name; members = cond (eqb g.name s) m g.members; names = cond (eqb g.name s) ns g.names }

-- the s_group s has the members m and the names ns
unfoldable pub put : ℕ → ℕ → List Entry → List Group → List Group
put s m ns gs = map (become s m ns) gs

-- one s_group more, in order of name
unfoldable pub add_group : Group → List Group → List Group
add_group g [] = g ∷ []
add_group g (h ∷ gs) = cond (ltb g.name h.name) (g ∷ h ∷ gs) (h ∷ add_group g gs)

-- without the s_group of the name
unfoldable pub drop_group : ℕ → List Group → List Group
drop_group s [] = []
drop_group s (g ∷ gs) = cond (eqb g.name s) (drop_group s gs) (g ∷ drop_group s gs)

-- the nodes that are in some s_group
abbrev pub all_members : List Group → ℕ
all_members gs = union_all (map (λ g. g.members) gs)

-- the normal nodes of the roster in no s_group
abbrev pub free_nodes : State → ℕ
free_nodes st = diff (diff (roster st.size) st.hidden) (all_members st.groups)
