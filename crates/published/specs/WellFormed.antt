-- Which published states there are: 000's property and assumptions (5.1), 01's ranges, and what 01 says of connections. Assumes nothing.
use Rattle.std.specs.Prelude.{◌≡◌, ◌≢◌, Bool, true, false, not, ◌&&◌, ◌||◌, cond, ℕ, ◌≤◌, ◌<◌, eqb, ltb}
use Rattle.std.proofs.Math.Option.{some}
use Rattle.nodes.specs.NodeSets.{node_limit}
use Rattle.entries.specs.Pids.{half_word, host}
use Rattle.semantics.specs.Sizes.{group_limit, names_per_group, group_names}
use Rattle.semantics.specs.Ranges.{held}
use Rattle.published.specs.Published.{Set, ◌∖◌, any, Namespace, SGroup, Node, Published, those, IsSGroupNode}
use Rattle.published.specs.Seen.{names_seen, how_many}

-- ni' is among the connections of ni
abbrev pub connected : ℕ → ℕ → Published → Bool
connected ni ni' X = those (λ nd. nd.connections ni') X.nds ni

-- the free hidden nodes, or the free normal ones: in no s_group
abbrev pub free : Bool → Published → Set
free h X = those (λ nd. cond h nd.hidden (not nd.hidden)) X.nds ∖ (λ ni. IsSGroupNode ni X.grs)

-- a namespace: names and pids in range, hosts on the roster; no more names than there is room for; no pid twice
pub record FairNamespace (size : ℕ) (ns : Namespace) : Type 0 where
  pub in_range : (n p : ℕ) → ns n ≡ some p → (1 ≤ n) × (n < half_word) × (p < half_word) × (host p < size)
  pub few : how_many half_word (λ n. held (ns n)) ≤ names_per_group
  pub pids : (n m p : ℕ) → ns n ≡ some p → ns m ≡ some p → n ≡ m

-- the s_group s: its name in range; a member; members on the roster, and all connected; its namespace
pub record FairGroup (X : Published) (size s : ℕ) (g : SGroup) : Type 0 where
  pub in_range : (1 ≤ s) × (s < group_names)
  pub someone : any node_limit g.nodes ≡ true
  pub on_roster : (ni : ℕ) → g.nodes ni ≡ true → ni < size
  pub met : (ni ni' : ℕ) → g.nodes ni ≡ true → g.nodes ni' ≡ true → ni ≢ ni' → connected ni ni' X ≡ true
  pub names : FairNamespace size g.namespace

-- a state
pub record WellFormed (X : Published) : Type 0 where
  -- the nodes are those below the roster's size
  pub size : ℕ
  pub size_range : (1 ≤ size) × (size ≤ node_limit)
  pub roster : (ni : ℕ) → held (X.nds ni) ≡ ltb ni size
  -- no more s_groups than there is room for; gr_names are those of the s_groups that the node is in
  pub few_groups : how_many group_names (λ s. held (X.grs s)) ≤ group_limit
  pub groups : (s : ℕ) (g : SGroup) → X.grs s ≡ some g → FairGroup X size s g
  pub gr_names_are : (ni : ℕ) (nd : Node) → X.nds ni ≡ some nd → nd.gr_names ≡ names_seen ni X.grs
  -- a connection goes both ways, and never from a node to itself
  pub both_ways : (ni ni' : ℕ) → connected ni ni' X ≡ connected ni' ni X
  pub no_self : (ni : ℕ) → connected ni ni X ≡ false
  -- the free hidden groups are the hidden nodes in no s_group
  pub free_hidden : (ni : ℕ) → X.fhs ni ≡ free true X ni
  -- the free normal groups have the normal nodes in no s_group, two of them in one exactly when connected, and are disjoint
  pub free_normal : (ni ni' : ℕ) → X.fgs ni ni' ≡ free false X ni && (free false X ni' && (eqb ni ni' || connected ni ni' X))
  pub disjoint : (ni ni' : ℕ) → X.fgs ni ni' ≡ true → X.fgs ni ≡ X.fgs ni'
