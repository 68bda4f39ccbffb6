-- Strangers, pids whose host is not a member of the s_group in which they are found (02, request 3), on whole tables, shown by computation. Assumes nothing.
use Rattle.std.specs.Prelude.{◌≡◌, refl, List, [], ◌∷◌, ℕ}
use Rattle.commands.specs.declared.Command.TheVariants.{RegisterName, ReRegisterName, WhereisName, WhereisNameAt, Send, SendName, SendAt, AddNodes, RemoveNodes}
use Rattle.answers.specs.Answers.{answer_of}
use Rattle.semantics.specs.Call.{call}
use Rattle.semantics.specs.Marked.{claim}
use Rattle.semantics.specs.Compute.{computing}
use Rattle.semantics.specs.Edges.{table_of}
use Rattle.semantics.specs.LeavingEdges.{pid_on, at_node, two_groups, store, every_node, full_store, less_one}
use Rattle.answers.specs.declared.Value.TheVariants.{True, Undefined, Pid, Grouped}
use Rattle.answers.specs.declared.Reason.TheVariants.{Done, NotRegistered, HostOutside}

-- `full_store` with these connections
abbrev pub wired : List ℕ → List ℕ
wired ls = table_of 4 0 (two_groups 7 every_node) ls (0 ∷ 0 ∷ 0 ∷ 8 ∷ [])

-- 73 lives on node 3, which is not in 5; 71 lives on a member
pub stranger_found : (call 0 0 (WhereisName 5 73) full_store ≡ claim (Pid (pid_on 3 73)) HostOutside full_store)
    × (call 0 0 (WhereisName 5 71) full_store ≡ claim (Pid (pid_on 1 71)) Done full_store)
unfolding computing
stranger_found = (refl, refl)

-- the members of the s_group in which it was found count: node 1 is in 5 with node 2, and finds its pid in 6 as a stranger's, in 5 as a member's
pub judged_here : (call 0 1 (WhereisName 6 72) full_store ≡ claim (Pid (pid_on 2 72)) HostOutside full_store)
    × (call 0 1 (WhereisName 5 72) full_store ≡ claim (Pid (pid_on 2 72)) Done full_store)
unfolding computing
judged_here = (refl, refl)

-- a lookup by node 1: its caller is the stranger itself, and connects with node 1 as ever
pub found_by-another : call 0 3 (WhereisNameAt 1 5 73) full_store ≡ claim (Pid (pid_on 3 73)) HostOutside (wired (6 ∷ 13 ∷ 3 ∷ 2 ∷ []))
unfolding computing
found_by-another = refl

-- ---- sends connect as with 0

-- the caller with the stranger, as the send to its pid does, which says 0
pub send_connects : (call 0 0 (SendName 5 73) full_store ≡ claim (Pid (pid_on 3 73)) HostOutside (wired (14 ∷ 5 ∷ 3 ∷ 1 ∷ [])))
    × (call 0 0 (Send (pid_on 3 73)) full_store ≡ claim (Pid (pid_on 3 73)) Done (wired (14 ∷ 5 ∷ 3 ∷ 1 ∷ [])))
unfolding computing
send_connects = (refl, refl)

-- the caller with node 1, which is asked, and with node 2: one pid, of a stranger to 6 and of a member of 5
pub send_at_connects : (call 0 3 (SendAt 1 6 72) full_store ≡ claim (Pid (pid_on 2 72)) HostOutside (wired (6 ∷ 13 ∷ 11 ∷ 6 ∷ [])))
    × (call 0 3 (SendAt 1 5 72) full_store ≡ claim (Pid (pid_on 2 72)) Done (wired (6 ∷ 13 ∷ 11 ∷ 6 ∷ [])))
unfolding computing
send_at_connects = (refl, refl)

-- ---- strangers come and go

-- node 3 is in 5 too
abbrev pub joined : List ℕ
joined = table_of 4 0 (two_groups 15 every_node) (14 ∷ 13 ∷ 11 ∷ 7 ∷ []) []

-- it is added to 5, and 73 is no stranger from then on
pub added : (call 0 0 (AddNodes 5 8) full_store ≡ claim (Grouped 5 8) Done joined)
    × (call 0 0 (WhereisName 5 73) joined ≡ claim (Pid (pid_on 3 73)) Done joined)
    × (call 0 0 (SendName 5 73) joined ≡ claim (Pid (pid_on 3 73)) Done joined)
unfolding computing
added = (refl, refl, refl)

-- it leaves again, and takes its name along
abbrev pub gone : List ℕ
gone = table_of 4 0 (two_groups 7 (at_node 0 70 ∷ at_node 1 71 ∷ at_node 2 72 ∷ [])) (14 ∷ 13 ∷ 11 ∷ 7 ∷ []) (0 ∷ 0 ∷ 0 ∷ 8 ∷ [])

pub left_again : (call 0 0 (RemoveNodes 5 8) joined ≡ claim True Done gone) × (call 0 0 (WhereisName 5 73) gone ≡ claim Undefined NotRegistered gone)
unfolding computing
left_again = (refl, refl)

-- node 3 is added to another s_group: in 5 it stays a stranger
pub added-elsewhere : (call 0 0 (WhereisName 5 73) (call 0 1 (AddNodes 6 8) full_store).table).answer ≡ answer_of (Pid (pid_on 3 73)) HostOutside
unfolding computing
added-elsewhere = refl

-- a pid of node 1 that node 0 registered
abbrev pub registered_for_1 : List ℕ
registered_for_1 = store 7 (at_node 0 70 ∷ at_node 1 71 ∷ at_node 2 72 ∷ at_node 3 73 ∷ at_node 1 74 ∷ []) (0 ∷ 0 ∷ 0 ∷ 8 ∷ [])

-- leaves with node 1, whoever registered it, and leaves no stranger behind
pub no_stranger_left : (call 0 0 (RegisterName 5 74 (pid_on 1 74)) full_store ≡ claim True Done registered_for_1)
    × (call 0 1 (RemoveNodes 5 2) registered_for_1 ≡ claim True Done less_one)
    × (call 0 0 (WhereisName 5 74) less_one ≡ claim Undefined NotRegistered less_one)
unfolding computing
no_stranger_left = (refl, refl, refl)

-- 70 stands for a pid of node 3
abbrev pub moved_out : List ℕ
moved_out = store 7 (at_node 3 70 ∷ at_node 1 71 ∷ at_node 2 72 ∷ at_node 3 73 ∷ []) (0 ∷ 0 ∷ 0 ∷ 8 ∷ [])

-- a name is registered anew for a stranger, and for a member again
pub re_registered : (call 0 0 (ReRegisterName 5 70 (pid_on 3 70)) full_store ≡ claim True Done moved_out)
    × (call 0 0 (WhereisName 5 70) moved_out ≡ claim (Pid (pid_on 3 70)) HostOutside moved_out)
    × (call 0 0 (ReRegisterName 5 70 (pid_on 0 70)) moved_out ≡ claim True Done full_store)
unfolding computing
re_registered = (refl, refl, refl)
