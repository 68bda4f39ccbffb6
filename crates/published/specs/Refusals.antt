-- 01's reasons over the published state, with 02's for strangers, and the whole answer: the lowest reason that holds, then 01's refusal or 000's rule. Assumes nothing.
use Rattle.std.specs.Prelude.{◌≡◌, ◌⊎◌, Bool, true, false, not, ◌&&◌, ◌||◌, cond, ℕ, ◌≤◌, eqb, ltb, leb, length}
use Rattle.std.proofs.Math.Option.{none}
use mathlib.Core.List.{List, [], ◌∷◌, ◌++◌, Memᴰ}
use Rattle.nodes.specs.NodeSets.{node_limit, has}
use Rattle.entries.specs.Pids.{half_word, host}
use Rattle.semantics.specs.Sizes.{group_limit, names_per_group, group_names}
use Rattle.commands.specs.declared.Command.{Command}
use Rattle.commands.specs.declared.Command.TheVariants.{RegisterName, ReRegisterName, UnregisterName, RegisteredNames, WhereisName, WhereisNameAt, Send, SendName, SendAt, NewSGroup, AddNodes, RemoveNodes, DeleteSGroup, OwnNodes, OwnSGroups}
use Rattle.answers.specs.Answers.{rank, among, refuses, answer_of}
use Rattle.semantics.specs.Ranges.{held, bad_group}
use Rattle.semantics.specs.FirstReason.{Test, ◌when◌, first}
use Rattle.answers.specs.declared.Answer.{Answer}
use Rattle.answers.specs.declared.Reason.{Reason}
use Rattle.answers.specs.declared.Reason.TheVariants.{Done, CallerUnknown, GroupNameRange, NameZero, NodeUnknown, GroupUnknown, NotMember, NameTaken, PidTaken, NotRegistered, NamespaceFull, CallerOutside, GroupTaken, GroupsFull, RunShort, HostOutside}
use Rattle.published.specs.Published.{Set, of_some, any, Namespace, Published, IsSGroupSNode, has_pid, Value, False, Error, Step, gives, transition}
use Rattle.published.specs.Seen.{how_many, said}

-- ---- what the reasons ask

-- ni is not on the roster
abbrev pub off_roster : ℕ → Published → Bool
off_roster ni X = not (held (X.nds ni))

-- a node of nis is not on the roster
abbrev pub strays : Set → Published → Bool
strays nis X = any node_limit (λ ni. nis ni && off_roster ni X)

-- there is no s_group s
abbrev pub unknown : ℕ → Published → Bool
unknown s X = not (held (X.grs s))

-- ni is not a member of s
abbrev pub outsider : ℕ → ℕ → Published → Bool
outsider ni s X = not (IsSGroupSNode ni s X.grs)

-- the namespace of s, empty where there is no s_group s
abbrev pub names_in : ℕ → Published → Namespace
names_in s X n = of_some none (λ g. g.namespace n) (X.grs s)

-- the namespace of s has no room
abbrev pub full : ℕ → Published → Bool
full s X = leb names_per_group (how_many half_word (λ n. held (names_in s X n)))

-- n stands in s for a pid whose host is not a member of s (02, request 3)
abbrev pub stranger : ℕ → ℕ → Published → Bool
stranger s n X = of_some false (λ p. outsider (host p) s X) (names_in s X n)

-- the run for a list has fewer words than the list that 000's rule gives
abbrev pub run_short : ℕ → Step → Bool
run_short room q = ltb room (length (said q.value).1)

-- ---- which reason holds

-- r is the lowest reason of ts that holds, or Done where none does
pub record Lowest (ts : List Test) (r : Reason) : Type 0 where
  pub given : ((r ≡ Done) × ((t : Test) → Memᴰ t ts → t.holds ≡ false)) ⊎ ((t : Test) × Memᴰ t ts × (t.holds ≡ true) × (r ≡ t.reason))
  pub least : (t : Test) → Memᴰ t ts → t.holds ≡ true → rank r ≤ rank t.reason

-- unregister_name, whereis_name/2 and send/3
abbrev pub tests_name : ℕ → ℕ → ℕ → Published → List Test
tests_name s n ni X =
    CallerUnknown when off_roster ni X ∷ GroupNameRange when bad_group s ∷ NameZero when eqb n 0
    ∷ GroupUnknown when unknown s X ∷ NotMember when outsider ni s X ∷ NotRegistered when not (held (names_in s X n)) ∷ []

-- whereis_name/3 and send/4: reasons 8 and 9 are about ni' and don't speak of zero, where nothing is registered
abbrev pub tests_at : ℕ → ℕ → ℕ → ℕ → Published → List Test
tests_at ni' s n ni X =
    CallerUnknown when off_roster ni X ∷ GroupNameRange when leb group_names s ∷ NameZero when eqb n 0 ∷ NodeUnknown when off_roster ni' X
    ∷ GroupUnknown when (not (eqb s 0) && unknown s X) ∷ NotMember when (not (eqb s 0) && outsider ni' s X)
    ∷ NotRegistered when not (held (names_in s X n)) ∷ []

-- the four lookups have one reason more, which refuses nothing: it stands beside the pid where no other holds
abbrev pub tests_host : ℕ → ℕ → Published → List Test
tests_host s n X = HostOutside when stranger s n X ∷ []

-- add_nodes and remove_nodes
abbrev pub tests_set : ℕ → ℕ → ℕ → Published → List Test
tests_set s set ni X =
    CallerUnknown when off_roster ni X ∷ GroupNameRange when bad_group s ∷ NodeUnknown when strays (has set) X
    ∷ GroupUnknown when unknown s X ∷ NotMember when outsider ni s X ∷ []

-- the reasons that a command can have, by rank, after 1 and 3, which are about the table; room is how many words the run for a list has
unfoldable pub tests : ℕ → Command → ℕ → Published → List Test
tests room (RegisterName s n p) ni X =
    CallerUnknown when off_roster ni X ∷ GroupNameRange when bad_group s ∷ NameZero when eqb n 0 ∷ NodeUnknown when off_roster (host p) X
    ∷ GroupUnknown when unknown s X ∷ NotMember when outsider ni s X ∷ NameTaken when held (names_in s X n)
    ∷ PidTaken when has_pid p (names_in s X) ∷ NamespaceFull when full s X ∷ []
tests room (ReRegisterName s n p) ni X =
    CallerUnknown when off_roster ni X ∷ GroupNameRange when bad_group s ∷ NameZero when eqb n 0 ∷ NodeUnknown when off_roster (host p) X
    ∷ GroupUnknown when unknown s X ∷ NotMember when outsider ni s X ∷ PidTaken when has_pid p (names_in s X)
    ∷ NamespaceFull when (not (held (names_in s X n)) && full s X) ∷ []
tests room (UnregisterName s n) ni X = tests_name s n ni X
tests room (WhereisName s n) ni X = tests_name s n ni X ++ tests_host s n X
tests room (RegisteredNames s) ni X =
    CallerUnknown when off_roster ni X ∷ GroupNameRange when bad_group s ∷ GroupUnknown when unknown s X ∷ NotMember when outsider ni s X
    ∷ RunShort when run_short room (transition (RegisteredNames s) ni X) ∷ []
tests room (AddNodes s set) ni X = tests_set s set ni X
tests room (NewSGroup s set) ni X =
    CallerUnknown when off_roster ni X ∷ GroupNameRange when bad_group s ∷ NodeUnknown when strays (has set) X
    ∷ CallerOutside when not (has set ni) ∷ GroupTaken when held (X.grs s)
    ∷ GroupsFull when leb group_limit (how_many group_names (λ t. held (X.grs t))) ∷ []
tests room (WhereisNameAt ni' s n) ni X = tests_at ni' s n ni X ++ tests_host s n X
tests room (SendAt ni' s n) ni X = tests_at ni' s n ni X ++ tests_host s n X
tests room (Send p) ni X = CallerUnknown when off_roster ni X ∷ NodeUnknown when off_roster (host p) X ∷ []
tests room (SendName s n) ni X = tests_name s n ni X ++ tests_host s n X
tests room (RemoveNodes s set) ni X = tests_set s set ni X
tests room (DeleteSGroup s) ni X =
    CallerUnknown when off_roster ni X ∷ GroupNameRange when bad_group s ∷ GroupUnknown when unknown s X ∷ NotMember when outsider ni s X ∷ []
tests room OwnNodes ni X = CallerUnknown when off_roster ni X ∷ []
tests room OwnSGroups ni X = CallerUnknown when off_roster ni X ∷ RunShort when run_short room (transition OwnSGroups ni X) ∷ []

-- ---- the answer

-- 000 has a rule where nothing is refused, and for 8 to 12 and 14; the others are 01's
abbrev pub ruled : Reason → Bool
ruled r = not (refuses r) || among r (GroupUnknown ∷ NotMember ∷ NameTaken ∷ PidTaken ∷ NotRegistered ∷ CallerOutside ∷ [])

-- what 01 answers for its own: Error, and False for a full namespace
abbrev pub refusal : Reason → Value
refusal r = cond (among r (NamespaceFull ∷ [])) False Error

-- the state after a command, the library's answer, and the words of its list
pub record Answered : Type 0 where
  pub state : Published
  pub answer : Answer
  pub list : List ℕ

-- the answer to the command c of ni: 000's where it has a rule for the reason; otherwise 01's, and nothing changes
unfoldable pub answer : ℕ → Command → ℕ → Published → Answered
answer room c ni X =
    let r : Reason = first (tests room c ni X) in
    let q : Step = cond (ruled r) (transition c ni X) (gives (refusal r) X) in
    record { state = q.state; answer = answer_of (said q.value).0 r; list = (said q.value).1 }
