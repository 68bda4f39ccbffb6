-- What the words of a table mean, and when it is sound, in the order and the words of document 01; cap names fit in an s_group. Assumes nothing.
use Rattle.std.specs.Prelude.{◌≡◌, ◌≢◌, true, cond, List, ℕ, zero, suc, ◌+◌, ◌*◌, ◌/◌, ◌%◌, ◌≤◌, ◌<◌, eqb, length}
use Rattle.std.proofs.Math.Option.{Option, none, some, map}
use Rattle.nodes.specs.NodeSets.{node_limit, has, word_at}
use Rattle.entries.specs.Pids.{half_word, host}
use Rattle.semantics.specs.Sizes.{group_limit, group_names, contents_at, members_at, links_at, free_at, bodies_at, table_words}

-- ---- the words by their meaning

-- the roster size N
abbrev pub size_of : List ℕ → ℕ
size_of t = word_at t 0

-- the set of hidden nodes
abbrev pub hidden_of : List ℕ → ℕ
hidden_of t = word_at t 1

-- the number G of s_groups
abbrev pub count_of : List ℕ → ℕ
count_of t = word_at t 2

-- the contents word of group g
abbrev pub contents_of : List ℕ → ℕ → ℕ
contents_of t g = word_at t (contents_at + g)

-- the name of group g
abbrev pub name_of : List ℕ → ℕ → ℕ
name_of t g = contents_of t g % group_names

-- how many names are registered in group g
abbrev pub names_of : List ℕ → ℕ → ℕ
names_of t g = contents_of t g / group_names

-- the members of group g
abbrev pub members_of : List ℕ → ℕ → ℕ
members_of t g = word_at t (members_at + g)

-- the connections of node i
abbrev pub links_of : List ℕ → ℕ → ℕ
links_of t i = word_at t (links_at + i)

-- the free normal group of node i
abbrev pub free_of : List ℕ → ℕ → ℕ
free_of t i = word_at t (free_at + i)

-- word k of the names of group g
abbrev pub entry_of : ℕ → List ℕ → ℕ → ℕ → ℕ
entry_of cap t g k = word_at t (bodies_at + (cap * g + k))

-- the process name in it
abbrev pub process_of : ℕ → List ℕ → ℕ → ℕ → ℕ
process_of cap t g k = entry_of cap t g k / half_word

-- the pid in it
abbrev pub pid_of : ℕ → List ℕ → ℕ → ℕ → ℕ
pid_of cap t g k = entry_of cap t g k % half_word

-- the place below n whose key is x
unfoldable pub at_place : (ℕ → ℕ) → ℕ → ℕ → Option ℕ
at_place key zero x = none
at_place key (suc n) x = cond (eqb (key n) x) (some n) (at_place key n x)

-- the group of the name s
abbrev pub group_named : List ℕ → ℕ → Option ℕ
group_named t = at_place (name_of t) (count_of t)

-- the pid that is registered under the process name n in group g
abbrev pub pid_named : ℕ → List ℕ → ℕ → ℕ → Option ℕ
pid_named cap t g n = map (pid_of cap t g) (at_place (process_of cap t g) (names_of t g) n)

-- ---- what is said of them

-- node i is in the set w
abbrev pub In : ℕ → ℕ → Type 0
In i w = has w i ≡ true

-- every node of the set w is on the roster
abbrev pub OnRoster : List ℕ → ℕ → Type 0
OnRoster t w = (i : ℕ) → In i w → i < size_of t

-- node i is a normal node of the roster, in no s_group
pub record FreeNormal (t : List ℕ) (i : ℕ) : Type 0 where
  pub on_roster : i < size_of t
  pub normal : In i (hidden_of t) → ⊥
  pub in_none : (g : ℕ) → g < count_of t → In i (members_of t g) → ⊥

-- the run is a sound table, with cap names an s_group
pub record Sound (cap : ℕ) (t : List ℕ) : Type 0 where
  -- the run has the table's length
  pub long : length t ≡ table_words cap
  -- the ranges hold: of the roster size, the number of s_groups, their names (a remainder by 65,536), the process names
  pub size_range : (1 ≤ size_of t) × (size_of t ≤ node_limit)
  pub count_range : count_of t ≤ group_limit
  pub group_range : (g : ℕ) → g < count_of t → 1 ≤ name_of t g
  pub process_range : (g k : ℕ) → g < count_of t → k < names_of t g → (1 ≤ process_of cap t g k) × (process_of cap t g k < half_word)
  -- contents ascend by group name, no two equal
  pub groups_ascend : (g h : ℕ) → g < h → h < count_of t → name_of t g < name_of t h
  -- each group has a member
  pub manned : (g : ℕ) → g < count_of t → members_of t g ≢ 0
  -- a namespace has at most cap names, in ascending order; no pid stands twice, and each lives on a node of the roster
  pub names_few : (g : ℕ) → g < count_of t → names_of t g ≤ cap
  pub names_ascend : (g j k : ℕ) → g < count_of t → j < k → k < names_of t g → process_of cap t g j < process_of cap t g k
  pub pids_distinct : (g j k : ℕ) → g < count_of t → j < k → k < names_of t g → pid_of cap t g j ≢ pid_of cap t g k
  pub hosted : (g k : ℕ) → g < count_of t → k < names_of t g → host (pid_of cap t g k) < size_of t
  -- all sets lie within the roster
  pub hidden_within : OnRoster t (hidden_of t)
  pub members_within : (g : ℕ) → g < count_of t → OnRoster t (members_of t g)
  pub links_within : (i : ℕ) → i < size_of t → OnRoster t (links_of t i)
  pub free_within : (i : ℕ) → i < size_of t → OnRoster t (free_of t i)
  -- every unused word is zero
  pub spare_zero : word_at t 3 ≡ 0
  pub contents_zero : (g : ℕ) → count_of t ≤ g → g < group_limit → contents_of t g ≡ 0
  pub members_zero : (g : ℕ) → count_of t ≤ g → g < group_limit → members_of t g ≡ 0
  pub links_zero : (i : ℕ) → size_of t ≤ i → i < node_limit → links_of t i ≡ 0
  pub free_zero : (i : ℕ) → size_of t ≤ i → i < node_limit → free_of t i ≡ 0
  pub names_zero : (g k : ℕ) → g < count_of t → names_of t g ≤ k → k < cap → entry_of cap t g k ≡ 0
  pub bodies_zero : (g k : ℕ) → count_of t ≤ g → g < group_limit → k < cap → entry_of cap t g k ≡ 0
  -- a connection goes both ways, and never from a node to itself
  pub both_ways : (i j : ℕ) → i < size_of t → j < size_of t → In j (links_of t i) → In i (links_of t j)
  pub not_itself : (i : ℕ) → i < size_of t → In i (links_of t i) → ⊥
  -- members of one s_group are all connected
  pub met : (g i j : ℕ) → g < count_of t → In i (members_of t g) → In j (members_of t g) → i ≢ j → In j (links_of t i)
  -- the free normal groups cover exactly the normal nodes in no s_group
  pub covered : (i : ℕ) → FreeNormal t i → In i (free_of t i)
  pub only_free : (i : ℕ) → i < node_limit → (FreeNormal t i → ⊥) → free_of t i ≡ 0
  -- each stands in the words of its own nodes, so that they are disjoint
  pub own_words : (i j : ℕ) → i < node_limit → In j (free_of t i) → free_of t j ≡ free_of t i
  -- of two free normal nodes: one group where they are connected, two where not
  pub shared : (i j : ℕ) → FreeNormal t i → FreeNormal t j → i ≢ j → has (free_of t i) j ≡ has (links_of t i) j
