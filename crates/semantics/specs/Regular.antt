-- What holds of the state of a sound table, as the proofs use it. `Agree` shows that it is the soundness of document 01. Assumes nothing.
use Rattle.std.specs.Prelude.{◌≡◌, ◌≢◌, Bool, true, false, ◌&&◌, ◌||◌, List, [], ◌∷◌, ℕ, ◌^◌, ◌≤◌, ◌<◌, eqb, length, get_or}
use Rattle.nodes.specs.Sets.{node_limit, has}
use Rattle.entries.specs.NamespaceSound as Namespace
use Rattle.semantics.specs.Sizes.{group_limit, group_names}
use Rattle.semantics.specs.State.{Group, State, free_nodes}

-- P of each s_group
abbrev pub Every : (Group → Type 0) → List Group → Type 0
Every P [] = Unit {0}
Every P (g ∷ gs) = P g × Every P gs

-- names above b, and ascending
abbrev pub Rising : ℕ → List Group → Type 0
Rising b [] = Unit {0}
Rising b (g ∷ gs) = (b < g.name) × Rising g.name gs

-- an s_group by itself: at most cap names, N nodes on the roster
pub record RegularGroup (cap N : ℕ) (g : Group) : Type 0 where
  pub small : g.name < group_names
  pub some_member : g.members ≢ 0
  pub on_roster : g.members < 2 ^ N
  pub names_sound : Namespace.Sound cap N g.names

-- the members of the s_group are all connected
abbrev pub Met : List ℕ → Group → Type 0
Met links g = (i j : ℕ) → has g.members i ≡ true → has g.members j ≡ true → i ≢ j → has (get_or links i 0) j ≡ true

-- connections and free groups, where loose tells the free normal nodes
pub record Wired (loose : ℕ → Bool) (links free : List ℕ) : Type 0 where
  pub both_ways : (i j : ℕ) → has (get_or links i 0) j ≡ has (get_or links j 0) i
  pub no_self : (i : ℕ) → has (get_or links i 0) i ≡ false
  pub frees : (i j : ℕ) → has (get_or free i 0) j ≡ loose i && (loose j && (eqb i j || has (get_or links i 0) j))
  pub classes : (i j : ℕ) → has (get_or free i 0) j ≡ true → get_or free i 0 ≡ get_or free j 0

-- whether node i is a free normal node
abbrev pub loose : State → ℕ → Bool
loose st i = has (free_nodes st) i

pub record Regular (cap : ℕ) (st : State) : Type 0 where
  pub size_low : 1 ≤ st.size
  pub size_high : st.size ≤ node_limit
  pub hidden_in : st.hidden < 2 ^ st.size
  pub groups_few : length st.groups ≤ group_limit
  pub rising : Rising 0 st.groups
  pub each : Every (RegularGroup cap st.size) st.groups
  pub links_long : length st.links ≡ node_limit
  pub free_long : length st.free ≡ node_limit
  pub within : (i j : ℕ) → has (get_or st.links i 0) j ≡ true → j < st.size
  pub met : Every (Met st.links) st.groups
  pub wires : Wired (loose st) st.links st.free
