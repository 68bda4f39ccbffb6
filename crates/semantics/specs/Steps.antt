-- The fifteen commands on a state, and the state of opening: answer, list and next state. Reasons 1 and 3 stand before these rules, where a table is
-- read as a state. `Published` has the transitions of document 000; a theorem says that these steps are those. Assumes nothing.
use Rattle.std.specs.Prelude.{Bool, not, ◌&&◌, ◌||◌, cond, List, [], ◌∷◌, map, ℕ, suc, ◌*◌, ◌+◌, eqb, leb, ltb, length, replicate}
use Rattle.std.proofs.Math.Option.{Option, none, some}
use Rattle.nodes.specs.Sets.{node_limit, has, empty, single, union, inter, diff, beyond, count, union_all}
use Rattle.entries.specs.Entries.{Entry, half_word, host, insert, remove, lookup, holds_pid, drop_hosted}
use Rattle.commands.specs.declared.Command.{Command}
use Rattle.commands.specs.declared.Command.TheVariants.{RegisterName, ReRegisterName, UnregisterName, RegisteredNames, WhereisName, WhereisNameAt, Send, SendName, SendAt, NewSGroup, AddNodes, RemoveNodes, DeleteSGroup, OwnNodes, OwnSGroups}
use Rattle.semantics.specs.GroupCommands.{GroupCommand, register_name, re_register_name, unregister_name, whereis_name, registered_names, add_nodes, new_s_group}
unfoldable pub use Rattle.semantics.specs.GroupCommands.{target, creates}
use Rattle.answers.specs.Answers.{answer_of}
use Rattle.semantics.specs.Ranges.{bad_group, held}
use Rattle.semantics.specs.Sizes.{group_limit, names_per_group, group_names}
use Rattle.semantics.specs.State.{Group, State, with_groups, with_links, with_free, free_of, find, put, add_group, drop_group, all_members}
use Rattle.answers.specs.declared.Answer.{Answer}
use Rattle.answers.specs.declared.Value.{Value}
use Rattle.answers.specs.declared.Value.TheVariants.{True, False, Error, Undefined, Pid, Grouped, Nodes, Listed}
use Rattle.answers.specs.declared.Reason.{Reason}
use Rattle.answers.specs.declared.Reason.TheVariants.{Done, CallerUnknown, GroupNameRange, NameZero, NodeUnknown, GroupUnknown, NotMember, NameTaken, PidTaken, NotRegistered, NamespaceFull, CallerOutside, GroupTaken, GroupsFull, RunShort, HostOutside}

-- ---- connections and free groups, word by word

-- f at each place and its word, the first place being k
abbrev pub mapi : (ℕ → ℕ → ℕ) → ℕ → List ℕ → List ℕ
mapi f k [] = []
mapi f k (x ∷ xs) = f k x ∷ mapi f (suc k) xs

-- f of two lists, word by word
abbrev pub zip_with : (ℕ → ℕ → ℕ) → List ℕ → List ℕ → List ℕ
zip_with f [] ys = []
zip_with f (x ∷ xs) [] = []
zip_with f (x ∷ xs) (y ∷ ys) = f x y ∷ zip_with f xs ys

-- what node i of the set m has more: the others of m
abbrev pub meet : ℕ → ℕ → ℕ → ℕ
meet m i l = cond (has m i) (union l (diff m (single i))) l

-- InterConnectNodes: each pair of m is connected
unfoldable pub interconnect : ℕ → List ℕ → List ℕ
interconnect m = mapi (meet m) 0

-- what is left of a free group's word at node i when the nodes of m leave
abbrev pub left : ℕ → ℕ → ℕ → ℕ
left m i f = cond (has m i) 0 (diff f m)

-- RemoveNodes: all of m leave their free groups together
unfoldable pub leave_free : ℕ → List ℕ → List ℕ
leave_free m = mapi (left m) 0

-- the nodes of m are one free group
unfoldable pub one_free_group : ℕ → List ℕ → List ℕ
one_free_group m = mapi (λ i f. cond (has m i) m f) 0

-- the pair is connected, and no free groups become one
abbrev pub link : ℕ → ℕ → State → State
link a b st = with_links (interconnect (union (single a) (single b)) st.links) st

-- the nodes of m are one free group, and all connected
abbrev pub merge : ℕ → State → State
merge m st = with_free (one_free_group m st.free) (with_links (interconnect m st.links) st)

-- AddConnections: nothing for a node and itself; two free normal nodes bring their groups together; otherwise the pair alone
unfoldable pub connect : ℕ → ℕ → State → State
connect a b st =
    cond (eqb a b) st
    (cond (empty (free_of a st) || empty (free_of b st)) (link a b st)
    (merge (union (free_of a st) (free_of b st)) st))

-- of the nodes that left an s_group, the normal ones that are in none of gs: they become free as one lot
abbrev pub lot : ℕ → List Group → State → ℕ
lot gone gs st = diff (diff gone (all_members gs)) st.hidden

-- the free group f where its node, of the connections l, is connected to one of m
abbrev pub near : ℕ → ℕ → ℕ → ℕ
near m l f = cond (empty (inter l m)) 0 f

-- the nodes of the free groups that have a node connected to one of m
abbrev pub touched : ℕ → State → ℕ
touched m st = union_all (zip_with (near m) st.links st.free)

-- NewFreeNodes, after the nodes of gone left an s_group and the s_groups are gs
unfoldable pub become_free : ℕ → List Group → State → State
become_free gone gs st = merge (union (lot gone gs st) (touched (lot gone gs st) st)) (with_groups gs st)

-- ---- answers

-- an answer, the words of its list, and the next state
pub record Result : Type 0 where
  pub answer : Answer
  pub list : List ℕ
  pub next : State

-- an answer without a list
abbrev pub reply : Value → Reason → State → Result
reply v r st = record { answer = answer_of v r; list = []; next = st }

-- an error that changes nothing
abbrev pub error : Reason → State → Result
error r st = reply Error r st

-- ---- the seven commands of one s_group. All but new_s_group feel that s_group alone; it feels how many there are

-- what becomes of the s_group: nothing; these members and names; a set joins, so that all members meet and the set leaves the free
-- groups; it is made of a set
pub data Effect : Type 0 where
  keep : Effect
  hold : ℕ → List Entry → Effect
  join : ℕ → ℕ → List Entry → Effect
  create : ℕ → Effect

-- an answer, the words of its list, and what becomes of the s_group
pub record Outcome : Type 0 where
  pub answer : Answer
  pub list : List ℕ
  pub effect : Effect

-- the rule's main case
abbrev pub done : Effect → Value → Outcome
done e v = record { answer = answer_of v Done; list = []; effect = e }

-- an answer that changes nothing
abbrev pub say : Value → Reason → Outcome
say v r = record { answer = answer_of v r; list = []; effect = keep }

-- a list, where the run that is lent for it has room
abbrev pub listed : ℕ → List ℕ → Outcome
listed room ws =
    cond (ltb room (length ws)) (say Error RunShort)
    (record { answer = answer_of (Listed (length ws)) Done; list = ws; effect = keep })

-- for a member of the s_group; or v, with the reason that there is none or that node i is not in it
abbrev pub as_member : ℕ → Value → Option Group → (Group → Outcome) → Outcome
as_member i v none k = say v GroupUnknown
as_member i v (some g) k = cond (has g.members i) (k g) (say v NotMember)

-- what a lookup finds is the pid, or Undefined
abbrev pub pid_or_undefined : Option ℕ → Value
pid_or_undefined none = Undefined
pid_or_undefined (some p) = Pid p

-- the reason beside a pid, by whether its host is a member (02, request 3)
abbrev pub beside : Bool → Reason
beside x = cond x Done HostOutside

-- the reason of a lookup by a member, in an s_group of these members
abbrev pub look_reason : ℕ → Option ℕ → Reason
look_reason members none = NotRegistered
look_reason members (some p) = beside (has members (host p))

-- what a member of g is told of n
abbrev pub whereis_in : ℕ → Group → Outcome
whereis_in n g = say (pid_or_undefined (lookup n g.names)) (look_reason g.members (lookup n g.names))

-- whether the namespace has no room for one more
abbrev pub full : List Entry → Bool
full ns = leb names_per_group (length ns)

-- the words of a list of names: s × 2^32 + n
abbrev pub name_words : ℕ → List Entry → List ℕ
name_words s ns = map (λ e. s * half_word + e.name) ns

-- from reason 6 on: room is that of the lent run, N the roster size, G the number of s_groups, i the caller, found the s_group
unfoldable pub inside : ℕ → ℕ → ℕ → ℕ → GroupCommand → Option Group → Outcome
inside room N G i (register_name s n p) found =
    cond (eqb n 0) (say Error NameZero)
    (cond (leb N (host p)) (say Error NodeUnknown)
    (as_member i False found (λ g.
    cond (held (lookup n g.names)) (say False NameTaken)
    (cond (holds_pid p g.names) (say False PidTaken)
    (cond (full g.names) (say False NamespaceFull)
    (done (hold g.members (insert (record { name = n; pid = p }) g.names)) True))))))
inside room N G i (re_register_name s n p) found =
    cond (eqb n 0) (say Error NameZero)
    (cond (leb N (host p)) (say Error NodeUnknown)
    (as_member i False found (λ g.
    cond (holds_pid p g.names) (say False PidTaken)
    (cond (not (held (lookup n g.names)) && full g.names) (say False NamespaceFull)
    (done (hold g.members (insert (record { name = n; pid = p }) (remove n g.names))) True)))))
inside room N G i (unregister_name s n) found =
    cond (eqb n 0) (say Error NameZero)
    (as_member i False found (λ g.
    cond (held (lookup n g.names))
    (done (hold g.members (remove n g.names)) True)
    (say True NotRegistered)))
inside room N G i (whereis_name s n) found =
    cond (eqb n 0) (say Error NameZero)
    (as_member i Undefined found (whereis_in n))
inside room N G i (registered_names s) found =
    as_member i (Listed 0) found (λ g. listed room (name_words s g.names))
inside room N G i (add_nodes s set) found =
    cond (beyond set N) (say Error NodeUnknown)
    (as_member i Error found (λ g. done (join set (union g.members set) g.names) (Grouped s set)))
inside room N G i (new_s_group s set) found =
    cond (beyond set N) (say Error NodeUnknown)
    (cond (not (has set i)) (say Error CallerOutside)
    (cond (held found) (say Error GroupTaken)
    (cond (leb group_limit G) (say Error GroupsFull)
    (done (create set) (Grouped s set)))))

-- reasons 4 and 5 stand before
unfoldable pub outcome : ℕ → ℕ → ℕ → ℕ → GroupCommand → Option Group → Outcome
outcome room N G i c found =
    cond (leb N i) (say Error CallerUnknown)
    (cond (bad_group (target c)) (say Error GroupNameRange)
    (inside room N G i c found))

-- the state after an effect on the s_group s
unfoldable pub apply : ℕ → Effect → State → State
apply s keep st = st
apply s (hold m ns) st = with_groups (put s m ns st.groups) st
apply s (join set m ns) st =
    with_groups (put s m ns st.groups) (with_free (leave_free set st.free) (with_links (interconnect m st.links) st))
apply s (create set) st =
    with_groups (add_group (record { name = s; members = set; names = [] }) st.groups)
    (with_free (leave_free set st.free) (with_links (interconnect set st.links) st))

-- an outcome for the s_group s, and the state after it
abbrev pub settle : ℕ → Outcome → State → Result
settle s o st = record { answer = o.answer; list = o.list; next = apply s o.effect st }

-- the step of a command that names one s_group
unfoldable pub group_step : ℕ → ℕ → GroupCommand → State → Result
group_step room i c st = settle (target c) (outcome room st.size (length st.groups) i c (find (target c) st.groups)) st

-- ---- all fifteen

-- what a lookup finds, and its reason
pub record Looked : Type 0 where
  pub found : Option ℕ
  pub reason : Reason

-- a lookup by a member, in an s_group of these members
abbrev pub looked : ℕ → Option ℕ → Looked
looked members o = record { found = o; reason = look_reason members o }

-- a lookup that finds nothing, for this reason
abbrev pub nothing_found : Reason → Looked
nothing_found r = record { found = none; reason = r }

-- a lookup of n in the s_group, with i as the asking node
abbrev pub look_in : ℕ → ℕ → Option Group → Looked
look_in i n none = nothing_found GroupUnknown
look_in i n (some g) = cond (has g.members i) (looked g.members (lookup n g.names)) (nothing_found NotMember)

-- FindName, with its reason: zero as the s_group's name finds nothing
abbrev pub ask : ℕ → ℕ → ℕ → State → Looked
ask i s n st = cond (eqb s 0) (nothing_found NotRegistered) (look_in i n (find s st.groups))

-- a lookup's answer, with the state that it leaves
abbrev pub tell : Looked → State → Result
tell l st = reply (pid_or_undefined l.found) l.reason st

-- the send to a pid that was found connects the caller with its host
abbrev pub send_on : ℕ → Option ℕ → State → State
send_on i none st = st
send_on i (some p) st = connect i (host p) st

-- the input tests of a lookup by node j, then k
abbrev pub asking : ℕ → ℕ → ℕ → State → Result → Result
asking j s n st k =
    cond (leb group_names s) (error GroupNameRange st)
    (cond (eqb n 0) (error NameZero st)
    (cond (leb st.size j) (error NodeUnknown st) k))

-- for a member of the s_group, or reasons 8 and 9 with Error
abbrev pub for_member : ℕ → Option Group → State → (Group → Result) → Result
for_member i none st k = error GroupUnknown st
for_member i (some g) st k = cond (has g.members i) (k g) (error NotMember st)

-- the names that g keeps when its members in the set leave: each takes along those whose pid lives on it (02, request 2)
abbrev pub kept_names : ℕ → Group → List Entry
kept_names set g = drop_hosted (inter g.members set) g.names

-- the s_groups when the members in the set have left g, which is s: a group left empty is deleted
abbrev pub left_in : ℕ → ℕ → Group → List Group → List Group
left_in s set g gs =
    cond (empty (diff g.members set)) (drop_group s gs)
    (put s (diff g.members set) (kept_names set g) gs)

-- the nodes of node i's groups: its free normal group; alone, where hidden and free; else those of its s_groups
abbrev pub own_set : ℕ → State → ℕ
own_set i st =
    cond (empty (free_of i st))
    (let u : ℕ = union_all (map (λ g. cond (has g.members i) g.members 0) st.groups) in cond (empty u) (single i) u)
    (free_of i st)

-- name and members of each s_group of node i
abbrev pub own_list : ℕ → List Group → List ℕ
own_list i [] = []
own_list i (g ∷ gs) = cond (has g.members i) (g.name ∷ g.members ∷ own_list i gs) (own_list i gs)

-- an outcome that only reads
abbrev pub read_only : Outcome → State → Result
read_only o st = record { answer = o.answer; list = o.list; next = st }

-- from reason 5 on
unfoldable pub rule : ℕ → ℕ → Command → State → Result
rule room i (RegisterName s n p) st = group_step room i (register_name s n p) st
rule room i (ReRegisterName s n p) st = group_step room i (re_register_name s n p) st
rule room i (UnregisterName s n) st = group_step room i (unregister_name s n) st
rule room i (RegisteredNames s) st = group_step room i (registered_names s) st
rule room i (WhereisName s n) st = group_step room i (whereis_name s n) st
rule room i (NewSGroup s set) st = group_step room i (new_s_group s set) st
rule room i (AddNodes s set) st = group_step room i (add_nodes s set) st
rule room i (WhereisNameAt j s n) st = asking j s n st (tell (ask j s n st) (connect i j st))
rule room i (SendAt j s n) st = asking j s n st (tell (ask j s n st) (send_on i (ask j s n st).found (connect i j st)))
rule room i (Send p) st =
    cond (leb st.size (host p)) (error NodeUnknown st)
    (reply (Pid p) Done (connect i (host p) st))
rule room i (SendName s n) st =
    cond (bad_group s) (error GroupNameRange st)
    (cond (eqb n 0) (error NameZero st)
    (tell (ask i s n st) (send_on i (ask i s n st).found st)))
rule room i (RemoveNodes s set) st =
    cond (bad_group s) (error GroupNameRange st)
    (cond (beyond set st.size) (error NodeUnknown st)
    (for_member i (find s st.groups) st (λ g.
    reply True Done (become_free (inter g.members set) (left_in s set g st.groups) st))))
rule room i (DeleteSGroup s) st =
    cond (bad_group s) (error GroupNameRange st)
    (for_member i (find s st.groups) st (λ g.
    reply True Done (become_free g.members (drop_group s st.groups) st)))
rule room i OwnNodes st = reply (Nodes (own_set i st) (count (own_set i st))) Done st
rule room i OwnSGroups st = read_only (listed room (own_list i st.groups)) st

-- reason 4 stands before all; room is how many words the run for a list has, i is the caller
unfoldable pub step : ℕ → ℕ → Command → State → Result
step room i c st = cond (leb st.size i) (error CallerUnknown st) (rule room i c st)

-- ---- opening

-- the free group of each normal node is that node
abbrev pub each_alone : ℕ → ℕ → List ℕ
each_alone N hidden = mapi (λ i x. cond (ltb i N && not (has hidden i)) (single i) 0) 0 (replicate node_limit 0)

-- opening: nobody is grouped or connected, and every normal node is a free group by itself
unfoldable pub opened : ℕ → ℕ → State
opened N hidden = record { size = N; hidden = hidden; groups = []; links = replicate node_limit 0; free = each_alone N hidden }
