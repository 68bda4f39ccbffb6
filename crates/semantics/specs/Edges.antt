-- The sample script of document 01 and its edges, on whole tables, shown by computation. Assumes nothing.
use Rattle.std.specs.Prelude.{◌≡◌, refl, true, List, [], ◌∷◌, map, ℕ, zero, suc, ◌+◌, ◌-◌, length, replicate}
use Rattle.nodes.specs.Sets.{node_limit}
use Rattle.entries.specs.Entries.{Entry}
use Rattle.semantics.specs.Sizes.{group_limit, names_per_group, group_names, table_words}
use Rattle.semantics.specs.State.{Group}
use Rattle.commands.specs.declared.Command.TheVariants.{RegisterName, ReRegisterName, RegisteredNames, WhereisName, WhereisNameAt, NewSGroup, RemoveNodes, DeleteSGroup, OwnNodes, OwnSGroups}
use Rattle.answers.specs.Answers.{answer_of}
use Rattle.semantics.specs.Steps.{name_words}
use Rattle.semantics.specs.Table.{pad, layout}
use Rattle.semantics.specs.Test.{sound}
use Rattle.semantics.specs.Call.{refused, call, opening}
use Rattle.semantics.specs.Lines.{Said}
use Rattle.semantics.specs.LineSteps.{said_by_call}
use Rattle.semantics.specs.Marked.{◌says◌, calls, session, claim}
use Rattle.semantics.specs.Compute.{computing}
use Rattle.answers.specs.declared.Value.{Value}
use Rattle.answers.specs.declared.Value.TheVariants.{Ok, True, False, Undefined, Pid, Grouped, Nodes, Listed}
use Rattle.answers.specs.declared.Reason.{Reason}
use Rattle.answers.specs.declared.Reason.TheVariants.{Done, RosterSize, Unsound, GroupNameRange, NodeUnknown, NotMember, PidTaken, NotRegistered, NamespaceFull, GroupsFull, RunShort}

-- ---- tables and answers

-- every word is zero
abbrev pub blank : List ℕ
blank = replicate (table_words names_per_group) 0

-- N nodes, the hidden ones, the s_groups, and the connections and free groups of the first nodes, those of the others being empty
abbrev pub table_of : ℕ → ℕ → List Group → List ℕ → List ℕ → List ℕ
table_of N hidden gs ls fs = layout names_per_group (record { size = N; hidden = hidden; groups = gs; links = pad node_limit ls; free = pad node_limit fs })

-- an answer without a list
abbrev pub hears : Value → Reason → Said
hears v r = record { answer = answer_of v r; list = [] }

-- a list
abbrev pub list_of : List ℕ → Said
list_of ws = record { answer = answer_of (Listed (length ws)) Done; list = ws }

-- ---- the sample script

pub sample : map said_by_call (session 4 8 blank (0 says NewSGroup 5 3 ∷ 0 says RegisterName 5 70 67108865 ∷ 1 says WhereisName 5 70
    ∷ 2 says WhereisName 5 70 ∷ 1 says WhereisName 5 71 ∷ 0 says OwnNodes ∷ []))
    ≡ hears Ok Done ∷ hears (Grouped 5 3) Done ∷ hears True Done ∷ hears (Pid 67108865) Done
    ∷ hears Undefined NotMember ∷ hears Undefined NotRegistered ∷ hears (Nodes 3 2) Done ∷ []
unfolding computing session calls
sample = refl

-- ---- a full namespace

-- n names from k on, each for the pid of the same number
abbrev pub numbered : ℕ → ℕ → List Entry
numbered k zero = []
numbered k (suc n) = record { name = k; pid = k } ∷ numbered (suc k) n

-- the nodes 0 and 1 are the s_group 5, with these names
abbrev pub holding : List Entry → List ℕ
holding es = table_of 2 0 (record { name = 5; members = 3; names = es } ∷ []) (2 ∷ 1 ∷ []) []

-- as many names as fit
abbrev pub most : List Entry
most = numbered 1 names_per_group

-- the last name that fits goes in
pub last-name_fits : call 0 0 (RegisterName 5 names_per_group names_per_group) (holding (numbered 1 (names_per_group - 1))) ≡ claim True Done (holding most)
unfolding computing
last-name_fits = refl

-- one more does not
pub one_more-refused : call 0 0 (RegisterName 5 (names_per_group + 1) (names_per_group + 1)) (holding most) ≡ claim False NamespaceFull (holding most)
unfolding computing
one_more-refused = refl

-- a held name goes to a new pid
pub held-name-renewed : call 0 1 (ReRegisterName 5 1 0) (holding most)
    ≡ claim True Done (holding (record { name = 1; pid = 0 } ∷ numbered 2 (names_per_group - 1)))
unfolding computing
held-name-renewed = refl

-- a new name is refused there too
pub new-name-refused : call 0 1 (ReRegisterName 5 (names_per_group + 1) 0) (holding most) ≡ claim False NamespaceFull (holding most)
unfolding computing
new-name-refused = refl

-- a new name with a held pid: 11 and not 13
pub held_pid_first : (call 0 0 (RegisterName 5 (names_per_group + 1) 1) (holding most) ≡ claim False PidTaken (holding most))
    × (call 0 0 (ReRegisterName 5 (names_per_group + 1) 1) (holding most) ≡ claim False PidTaken (holding most))
unfolding computing
held_pid_first = (refl, refl)

-- ---- room for a list

-- one word short: 17
pub room_short : (call (names_per_group - 1) 0 (RegisteredNames 5) (holding most) ≡ refused RunShort (holding most))
    × (call 1 0 OwnSGroups (holding []) ≡ refused RunShort (holding []))
unfolding computing
room_short = (refl, refl)

-- as many words as the list has
pub room_enough : (said_by_call (call names_per_group 0 (RegisteredNames 5) (holding most)) ≡ list_of (name_words 5 most))
    × (said_by_call (call 2 0 OwnSGroups (holding [])) ≡ list_of (5 ∷ 3 ∷ []))
unfolding computing
room_enough = (refl, refl)

-- ---- the roster

pub widest : ((opening node_limit 0 blank).answer ≡ answer_of Ok Done) × (sound names_per_group (opening node_limit 0 blank).table ≡ true)
unfolding computing
widest = (refl, refl)

pub too_wide : opening (node_limit + 1) 0 blank ≡ refused RosterSize blank
unfolding computing
too_wide = refl

pub too-narrow : opening 0 0 blank ≡ refused RosterSize blank
unfolding computing
too-narrow = refl

pub hidden-beyond : opening 4 16 blank ≡ refused NodeUnknown blank
unfolding computing
hidden-beyond = refl

-- ---- names of s_groups

-- two nodes, each free and alone
abbrev pub two : List ℕ
two = table_of 2 0 [] [] (1 ∷ 2 ∷ [])

-- the highest name, 65,535, is taken
pub highest-group : call 0 0 (NewSGroup (group_names - 1) 1) two
    ≡ claim (Grouped (group_names - 1) 1) Done (table_of 2 0 (record { name = group_names - 1; members = 1; names = [] } ∷ []) [] (0 ∷ 2 ∷ []))
unfolding computing
highest-group = refl

-- the next one and zero are not
pub group_beyond : (call 0 0 (NewSGroup group_names 1) two ≡ refused GroupNameRange two)
    × (call 0 0 (NewSGroup 0 1) two ≡ refused GroupNameRange two)
unfolding computing
group_beyond = (refl, refl)

-- ---- as many s_groups as there can be

-- n s_groups from k on, each of node 0 alone
abbrev pub lone : ℕ → ℕ → List Group
lone k zero = []
lone k (suc n) = record { name = k; members = 1; names = [] } ∷ lone (suc k) n

-- one node, in that many s_groups
abbrev pub grouped : ℕ → List ℕ
grouped n = table_of 1 0 (lone 1 n) [] []

-- the last that fits goes in
pub last-group-fits : call 0 0 (NewSGroup group_limit 1) (grouped (group_limit - 1)) ≡ claim (Grouped group_limit 1) Done (grouped group_limit)
unfolding computing
last-group-fits = refl

-- one more does not
pub one_more-group-refused : call 0 0 (NewSGroup (group_limit + 1) 1) (grouped group_limit) ≡ refused GroupsFull (grouped group_limit)
unfolding computing
one_more-group-refused = refl

-- ---- becoming free

-- the nodes 0 and 1 are the s_group 5; 1 is connected with 2, and 0 with 3, which has a free group with 4
abbrev pub between_two : List ℕ
between_two = table_of 5 0 (record { name = 5; members = 3; names = [] } ∷ []) (10 ∷ 5 ∷ 2 ∷ 17 ∷ 8 ∷ []) (0 ∷ 0 ∷ 4 ∷ 24 ∷ 24 ∷ [])

-- M13 with two connected free groups: there is one in the end, and all are connected
pub both-free_groups : call 0 1 (DeleteSGroup 5) between_two ≡ claim True Done (table_of 5 0 [] (30 ∷ 29 ∷ 27 ∷ 23 ∷ 15 ∷ []) (31 ∷ 31 ∷ 31 ∷ 31 ∷ 31 ∷ []))
unfolding computing
both-free_groups = refl

-- remove_nodes of all members deletes the s_group, with its names
pub emptied : call 0 0 (RemoveNodes 5 3) (holding most) ≡ claim True Done (table_of 2 0 [] (2 ∷ 1 ∷ []) (3 ∷ 3 ∷ []))
unfolding computing
emptied = refl

-- ---- zero, and free nodes

-- the s_group 0 finds nothing, and the connection is made
pub group-zero : call 0 0 (WhereisNameAt 1 0 70) (table_of 2 2 [] [] (1 ∷ [])) ≡ claim Undefined NotRegistered (table_of 2 2 [] (2 ∷ 1 ∷ []) (1 ∷ []))
unfolding computing
group-zero = refl

-- a free hidden node is alone, connected or not
pub hidden-alone : call 0 1 OwnNodes (table_of 2 2 [] (2 ∷ 1 ∷ []) (1 ∷ [])) ≡ claim (Nodes 2 1) Done (table_of 2 2 [] (2 ∷ 1 ∷ []) (1 ∷ []))
unfolding computing
hidden-alone = refl

-- a free node has no s_groups: the empty list, which needs no room
pub free_in-none : call 0 0 OwnSGroups two ≡ claim (Listed 0) Done two
unfolding computing
free_in-none = refl

-- ---- tables that are refused

pub zeros-unsound : call 64 0 OwnNodes blank ≡ refused Unsound blank
unfolding computing
zeros-unsound = refl
