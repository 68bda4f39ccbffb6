-- Names that leave an s_group with their node (02, request 2), on whole tables, shown by computation. Assumes nothing.
use Rattle.std.specs.Prelude.{◌≡◌, refl, List, [], ◌∷◌, ℕ, zero, suc, ◌*◌, ◌+◌}
use Rattle.entries.specs.Entries.{Entry, pids_per_host}
use Rattle.semantics.specs.Sizes.{names_per_group}
use Rattle.semantics.specs.State.{Group}
use Rattle.commands.specs.declared.Command.TheVariants.{RegisterName, WhereisName, RemoveNodes}
use Rattle.semantics.specs.Call.{call}
use Rattle.semantics.specs.Marked.{claim}
use Rattle.semantics.specs.Compute.{computing}
use Rattle.semantics.specs.Edges.{table_of, holding, most}
use Rattle.answers.specs.declared.Value.TheVariants.{True, Undefined}
use Rattle.answers.specs.declared.Reason.TheVariants.{Done, NotRegistered}

-- pid number k of node h
abbrev pub pid_on : ℕ → ℕ → ℕ
pid_on h k = h * pids_per_host + k

-- the name n for pid number n of node h
abbrev pub at_node : ℕ → ℕ → Entry
at_node h n = record { name = n; pid = pid_on h n }

-- the s_group 5 with these members and names, and the s_group 6 of node 1 with names of 1 and 2
abbrev pub two_groups : ℕ → List Entry → List Group
two_groups m es = record { name = 5; members = m; names = es } ∷ record { name = 6; members = 2; names = at_node 1 71 ∷ at_node 2 72 ∷ [] } ∷ []

-- four nodes, of which 0, 1 and 2 are connected, with these s_groups and the free groups
abbrev pub store : ℕ → List Entry → List ℕ → List ℕ
store m es = table_of 4 0 (two_groups m es) (6 ∷ 5 ∷ 3 ∷ [])

-- a name for a pid of each node
abbrev pub every_node : List Entry
every_node = at_node 0 70 ∷ at_node 1 71 ∷ at_node 2 72 ∷ at_node 3 73 ∷ []

-- 0, 1 and 2 are in 5, which has these names; node 3 is a stranger to it
abbrev pub full_store : List ℕ
full_store = store 7 every_node (0 ∷ 0 ∷ 0 ∷ 8 ∷ [])

-- the same without node 1, and without its name
abbrev pub less_one : List ℕ
less_one = store 5 (at_node 0 70 ∷ at_node 2 72 ∷ at_node 3 73 ∷ []) (0 ∷ 0 ∷ 0 ∷ 8 ∷ [])

-- the caller takes itself out, and its name with it; the s_group 6, where it still is, keeps its names
pub caller-leaves : call 0 1 (RemoveNodes 5 2) full_store ≡ claim True Done less_one
unfolding computing
caller-leaves = refl

-- node 3 is in the set and no member: its name stays; the name of node 2 goes
pub stranger-takes-nothing : call 0 0 (RemoveNodes 5 12) full_store
    ≡ claim True Done (store 3 (at_node 0 70 ∷ at_node 1 71 ∷ at_node 3 73 ∷ []) (0 ∷ 0 ∷ 4 ∷ 8 ∷ []))
unfolding computing
stranger-takes-nothing = refl

-- a set without members takes nothing at all
pub only-strangers : call 0 0 (RemoveNodes 5 8) full_store ≡ claim True Done full_store
unfolding computing
only-strangers = refl

-- two members leave: the names that they host go, wherever these stand, and that of the stranger stays
pub two-leave : call 0 2 (RemoveNodes 5 5) full_store
    ≡ claim True Done (store 2 (at_node 1 71 ∷ at_node 3 73 ∷ []) (5 ∷ 0 ∷ 5 ∷ 8 ∷ []))
unfolding computing
two-leave = refl

-- then a member hears that the name is not registered, and name and pid can be registered anew
pub free_again : (call 0 0 (WhereisName 5 71) less_one ≡ claim Undefined NotRegistered less_one)
    × (call 0 0 (RegisterName 5 71 (pid_on 1 71)) less_one
    ≡ claim True Done (store 5 (at_node 0 70 ∷ at_node 1 71 ∷ at_node 2 72 ∷ at_node 3 73 ∷ []) (0 ∷ 0 ∷ 0 ∷ 8 ∷ [])))
unfolding computing
free_again = (refl, refl)

-- ---- all names, and none

-- the nodes 0 and 1 are connected: the s_group 5 of node 0 alone with these names, node 1 being free
abbrev pub left_alone : List Entry → List ℕ
left_alone es = table_of 2 0 (record { name = 5; members = 1; names = es } ∷ []) (2 ∷ 1 ∷ []) (0 ∷ 2 ∷ [])

-- n names from k on, all of node 1
abbrev pub on_node_1 : ℕ → ℕ → List Entry
on_node_1 k zero = []
on_node_1 k (suc n) = at_node 1 k ∷ on_node_1 (suc k) n

-- node 1 leaves and takes a full namespace along
pub all-leave : call 0 0 (RemoveNodes 5 2) (holding (on_node_1 1 names_per_group)) ≡ claim True Done (left_alone [])
unfolding computing
all-leave = refl

-- the names of a full namespace are all of node 0, and stay
pub none-leaves : call 0 0 (RemoveNodes 5 2) (holding most) ≡ claim True Done (left_alone most)
unfolding computing
none-leaves = refl
