-- The nodes of a group and the groups of a file, as a walk from a place on finds them, and the place where it ends. Assumes nothing.
use Rattle.std.specs.Prelude.{Result, Ok, Err, Bool, true, false, List, [], ◌∷◌, ℕ, zero, suc, length}
use Rattle.grammar.specs.File.{Group}
use Rattle.tokens.specs.declared.Atom.{Atom}
use Rattle.walk.specs.Walk.{part, head_at, node_at, entry_at}
use Rattle.walk.specs.declared.Node.{Node}
use Rattle.walk.specs.declared.Entry.{Entry}

-- ---- the nodes of a group: their names, and the place behind the group

-- a node, and the others by k
abbrev pub nodes_by : List ℕ → (ℕ → List (List ℕ)) → Result Node ℕ → List (List ℕ)
nodes_by t k (Ok (Node.More a)) = part t a.from a.to ∷ k a.past
nodes_by t k (Ok (Node.Last a)) = part t a.from a.to ∷ []
nodes_by t k (Err p) = []

-- in so many steps at most
unfoldable pub nodes_in : ℕ → List ℕ → ℕ → List (List ℕ)
nodes_in zero t at = []
nodes_in (suc f) t at = nodes_by t (nodes_in f t) (node_at t at)

-- each step goes on, so that a step for each byte is enough
unfoldable pub nodes : List ℕ → ℕ → List (List ℕ)
nodes t at = nodes_in (suc (length t)) t at

abbrev pub pass_by : (ℕ → Result ℕ ℕ) → Result Node ℕ → Result ℕ ℕ
pass_by k (Ok (Node.More a)) = k a.past
pass_by k (Ok (Node.Last a)) = Ok a.past
pass_by k (Err p) = Err p

unfoldable pub pass_nodes_in : ℕ → List ℕ → ℕ → Result ℕ ℕ
pass_nodes_in zero t at = Err at
pass_nodes_in (suc f) t at = pass_by (pass_nodes_in f t) (node_at t at)

unfoldable pub pass_nodes : List ℕ → ℕ → Result ℕ ℕ
pass_nodes t at = pass_nodes_in (suc (length t)) t at

-- ---- the groups of a file

-- a group whose front was read, and the others by k from the place behind it
abbrev pub group_by : List ℕ → Atom → (ℕ → List Group) → Result ℕ ℕ → List Group
group_by t a k (Ok n) = record { name = part t a.from a.to; nodes = nodes t a.past } ∷ k n
group_by t a k (Err p) = []

abbrev pub head_by : List ℕ → (ℕ → List Group) → Result Atom ℕ → List Group
head_by t k (Ok a) = group_by t a k (pass_nodes t a.past)
head_by t k (Err p) = []

abbrev pub entry_by : List ℕ → (ℕ → List Group) → Result Entry ℕ → List Group
entry_by t k (Ok (Entry.Group n)) = head_by t k (head_at t n)
entry_by t k (Ok (Entry.Closed n)) = []
entry_by t k (Err p) = []

unfoldable pub groups_in : ℕ → List ℕ → ℕ → Bool → List Group
groups_in zero t at begun = []
groups_in (suc f) t at begun = entry_by t (λ n. groups_in f t n true) (entry_at t at begun)

-- the groups from a place on: behind the bracket of their list or, once it has begun, behind a group
unfoldable pub groups_from : List ℕ → ℕ → Bool → List Group
groups_from t at begun = groups_in (suc (length t)) t at begun

-- the groups of the list that begins at a place
abbrev pub groups : List ℕ → ℕ → List Group
groups t at = groups_from t at false

-- the place behind the list, or where it stops
abbrev pub pass_head : List ℕ → (ℕ → Result ℕ ℕ) → Result ℕ ℕ → Result ℕ ℕ
pass_head t k (Ok n) = k n
pass_head t k (Err p) = Err p

abbrev pub pass_group : List ℕ → (ℕ → Result ℕ ℕ) → Result Atom ℕ → Result ℕ ℕ
pass_group t k (Ok a) = pass_head t k (pass_nodes t a.past)
pass_group t k (Err p) = Err p

abbrev pub pass_entry : List ℕ → (ℕ → Result ℕ ℕ) → Result Entry ℕ → Result ℕ ℕ
pass_entry t k (Ok (Entry.Group n)) = pass_group t k (head_at t n)
pass_entry t k (Ok (Entry.Closed n)) = Ok n
pass_entry t k (Err p) = Err p

unfoldable pub pass_groups_in : ℕ → List ℕ → ℕ → Bool → Result ℕ ℕ
pass_groups_in zero t at begun = Err at
pass_groups_in (suc f) t at begun = pass_entry t (λ n. pass_groups_in f t n true) (entry_at t at begun)

unfoldable pub pass_groups_from : List ℕ → ℕ → Bool → Result ℕ ℕ
pass_groups_from t at begun = pass_groups_in (suc (length t)) t at begun

abbrev pub pass_groups : List ℕ → ℕ → Result ℕ ℕ
pass_groups t at = pass_groups_from t at false
