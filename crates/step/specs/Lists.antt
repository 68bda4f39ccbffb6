-- The words of a list: how many they are is what the answer says, they fit the run, and only two commands have any. Assumes nothing.
use Rattle.std.specs.Prelude.{◌≡◌, Bool, true, false, not, ◌&&◌, cond, List, [], ℕ, ◌≤◌, eqb, leb, ltb, length}
use Rattle.std.proofs.Math.Path.{refl}
use Rattle.std.proofs.Math.Option.{Option, none, some}
use Rattle.std.proofs.Common.{arith, ltb-false}
use Rattle.nodes.specs.Sets.{has, beyond, count}
use Rattle.entries.specs.Entries.{host, lookup, holds_pid}
use Rattle.semantics.specs.Sizes.{group_limit, names_per_group, group_names, table_words}
use Rattle.semantics.specs.State.{Group, State, find}
use Rattle.commands.specs.declared.Command.{Command}
use Rattle.commands.specs.declared.Command.TheVariants.{RegisterName, ReRegisterName, UnregisterName, RegisteredNames, WhereisName, WhereisNameAt, Send, SendName, SendAt, NewSGroup, AddNodes, RemoveNodes, DeleteSGroup, OwnNodes, OwnSGroups}
use Rattle.semantics.specs.GroupCommands.{GroupCommand, register_name, re_register_name, unregister_name, whereis_name, registered_names, add_nodes, new_s_group}
use Rattle.answers.specs.Answers.{answer_of}
use Rattle.answers.specs.Answers as Answers
use Rattle.semantics.specs.Ranges.{bad_group, held}
use Rattle.semantics.specs.Steps.{Outcome, Effect, keep, done, say, listed, as_member, pid_or_undefined, full, name_words, inside, outcome, target, group_step}
use Rattle.semantics.specs.Steps.{Result, reply, ask, tell, asking, for_member, own_set, own_list, rule, step}
use Rattle.semantics.specs.Table.{state_of}
use Rattle.semantics.specs.Test.{sound}
use Rattle.semantics.specs.FirstReason.{first, opening_tests}
use Rattle.semantics.specs.Call.{Call, refused, written, call, opening}
use Rattle.answers.specs.declared.Answer.{Answer}
use Rattle.answers.specs.declared.Value.{Value}
use Rattle.answers.specs.declared.Value.TheVariants.{Ok, True, False, Error, Undefined, Pid, Grouped, Nodes, Listed}
use Rattle.answers.specs.declared.Reason.{Reason}
use Rattle.answers.specs.declared.Reason.TheVariants.{Done, TableLength, Unsound, CallerUnknown, GroupNameRange, NameZero, NodeUnknown, GroupUnknown, NotMember, NameTaken, PidTaken, NotRegistered, NamespaceFull, CallerOutside, GroupTaken, GroupsFull, RunShort}

-- how many words a value says that its list has
abbrev pub count_of : Value → ℕ
count_of Ok = 0
count_of True = 0
count_of False = 0
count_of Error = 0
count_of Undefined = 0
count_of (Pid p) = 0
count_of (Grouped s set) = 0
count_of (Nodes set k) = 0
count_of (Listed k) = k

-- the commands that answer with a list
abbrev pub lists_names : GroupCommand → Bool
lists_names (register_name s n p) = false
lists_names (re_register_name s n p) = false
lists_names (unregister_name s n) = false
lists_names (whereis_name s n) = false
lists_names (registered_names s) = true
lists_names (add_nodes s set) = false
lists_names (new_s_group s set) = false

abbrev pub lists : Command → Bool
lists (RegisterName s n p) = lists_names (register_name s n p)
lists (ReRegisterName s n p) = lists_names (re_register_name s n p)
lists (UnregisterName s n) = lists_names (unregister_name s n)
lists (RegisteredNames s) = lists_names (registered_names s)
lists (WhereisName s n) = lists_names (whereis_name s n)
lists (NewSGroup s set) = lists_names (new_s_group s set)
lists (AddNodes s set) = lists_names (add_nodes s set)
lists (WhereisNameAt j s n) = false
lists (SendAt j s n) = false
lists (Send p) = false
lists (SendName s n) = false
lists (RemoveNodes s set) = false
lists (DeleteSGroup s) = false
lists OwnNodes = false
lists OwnSGroups = true

-- ---- what holds of every answer and its list, by the cases of the commands

record OfOutcome (Q : Answer → List ℕ → Type 0) (o : Outcome) : Type 0 where
  holds : Q o.answer o.list

record OfResult (Q : Answer → List ℕ → Type 0) (r : Result) : Type 0 where
  holds : Q r.answer r.list

record OfCall (Q : Answer → List ℕ → Type 0) (c : Call) : Type 0 where
  holds : Q c.answer c.list

-- Q holds of an answer that says no words, with no list
module _ (Q : Answer → List ℕ → Type 0) (plain : (a : Answer) → count_of a.value ≡ 0 → Q a []) where
  -- ---- outcomes

  or-outcome : (t : Bool) {x y : Outcome} → OfOutcome Q x → OfOutcome Q y → OfOutcome Q (cond t x y)
  or-outcome true p q = p
  or-outcome false p q = q

  says : (v : Value) (r : Reason) → count_of v ≡ 0 → OfOutcome Q (say v r)
  says v r e = record { holds = plain (answer_of v r) e }

  does : (f : Effect) (v : Value) → count_of v ≡ 0 → OfOutcome Q (done f v)
  does f v e = record { holds = plain (answer_of v Done) e }

  for-members : (i : ℕ) (v : Value) (found : Option Group) (k : Group → Outcome) → count_of v ≡ 0 → ((g : Group) → OfOutcome Q (k g)) → OfOutcome Q (as_member i v found k)
  for-members i v none k e f = says v GroupUnknown e
  for-members i v (some g) k e f = or-outcome (has g.members i) (f g) (says v NotMember e)

  pid-plain : (o : Option ℕ) → count_of (pid_or_undefined o) ≡ 0
  pid-plain none = refl
  pid-plain (some p) = refl

  -- a list that fits the run
  fitting : (room : ℕ) (ws : List ℕ) → (length ws ≤ room → Q (answer_of (Listed (length ws)) Done) ws) → OfOutcome Q (listed room ws)
  fitting room ws f = go (ltb room (length ws)) refl
    where
      go : (t : Bool) → ltb room (length ws) ≡ t
          → OfOutcome Q (cond t (say Error RunShort) (record { answer = answer_of (Listed (length ws)) Done; list = ws; effect = keep }))
      go true e = says Error RunShort refl
      go false e = record { holds = f (ltb-false _ _ e) }

  insides : (room N G i : ℕ) (c : GroupCommand) (found : Option Group) → (lists_names c ≡ true → (ws : List ℕ) → length ws ≤ room → Q (answer_of (Listed (length ws)) Done) ws) → OfOutcome Q (inside room N G i c found)
  unfolding inside
  insides room N G i (register_name s n p) found f =
      or-outcome (eqb n 0) (says Error NameZero refl)
      (or-outcome (leb N (host p)) (says Error NodeUnknown refl)
      (for-members i False found _ refl (λ g.
      or-outcome (held (lookup n g.names)) (says False NameTaken refl)
      (or-outcome (holds_pid p g.names) (says False PidTaken refl)
      (or-outcome (full g.names) (says False NamespaceFull refl)
      (does _ True refl))))))
  insides room N G i (re_register_name s n p) found f =
      or-outcome (eqb n 0) (says Error NameZero refl)
      (or-outcome (leb N (host p)) (says Error NodeUnknown refl)
      (for-members i False found _ refl (λ g.
      or-outcome (holds_pid p g.names) (says False PidTaken refl)
      (or-outcome (not (held (lookup n g.names)) && full g.names) (says False NamespaceFull refl)
      (does _ True refl)))))
  insides room N G i (unregister_name s n) found f =
      or-outcome (eqb n 0) (says Error NameZero refl)
      (for-members i False found _ refl (λ g.
      or-outcome (held (lookup n g.names)) (does _ True refl) (says True NotRegistered refl)))
  insides room N G i (whereis_name s n) found f =
      or-outcome (eqb n 0) (says Error NameZero refl)
      (for-members i Undefined found _ refl (λ g. says (pid_or_undefined (lookup n g.names)) _ (pid-plain (lookup n g.names))))
  insides room N G i (registered_names s) found f = for-members i (Listed 0) found _ refl (λ g. fitting room (name_words s g.names) (f refl _))
  insides room N G i (add_nodes s set) found f =
      or-outcome (beyond set N) (says Error NodeUnknown refl)
      (for-members i Error found _ refl (λ g. does _ (Grouped s set) refl))
  insides room N G i (new_s_group s set) found f =
      or-outcome (beyond set N) (says Error NodeUnknown refl)
      (or-outcome (not (has set i)) (says Error CallerOutside refl)
      (or-outcome (held found) (says Error GroupTaken refl)
      (or-outcome (leb group_limit G) (says Error GroupsFull refl)
      (does _ (Grouped s set) refl))))

  -- ---- results

  or-result : (t : Bool) {x y : Result} → OfResult Q x → OfResult Q y → OfResult Q (cond t x y)
  or-result true p q = p
  or-result false p q = q

  replies : (v : Value) (r : Reason) (st : State) → count_of v ≡ 0 → OfResult Q (reply v r st)
  replies v r st e = record { holds = plain (answer_of v r) e }

  looks : (i s n : ℕ) (st u : State) → OfResult Q (tell (ask i s n st) u)
  looks i s n st u = replies _ _ u (pid-plain (ask i s n st).found)

  asks : (j s n : ℕ) (st : State) (k : Result) → OfResult Q k → OfResult Q (asking j s n st k)
  asks j s n st k h =
      or-result (leb group_names s) (replies Error GroupNameRange st refl)
      (or-result (eqb n 0) (replies Error NameZero st refl)
      (or-result (leb st.size j) (replies Error NodeUnknown st refl) h))

  members : (i : ℕ) (found : Option Group) (st : State) (k : Group → Result) → ((g : Group) → OfResult Q (k g)) → OfResult Q (for_member i found st k)
  members i none st k f = replies Error GroupUnknown st refl
  members i (some g) st k f = or-result (has g.members i) (f g) (replies Error NotMember st refl)

  groups : (room i : ℕ) (c : GroupCommand) (st : State) → (lists_names c ≡ true → (ws : List ℕ) → length ws ≤ room → Q (answer_of (Listed (length ws)) Done) ws) → OfResult Q (group_step room i c st)
  unfolding group_step outcome
  groups room i c st f =
      let o = or-outcome (leb st.size i) (says Error CallerUnknown refl)
      (or-outcome (bad_group (target c)) (says Error GroupNameRange refl) (insides room st.size (length st.groups) i c (find (target c) st.groups) f)) in
      record { holds = o.holds }

  rules : (room i : ℕ) (c : Command) (st : State) → (lists c ≡ true → (ws : List ℕ) → length ws ≤ room → Q (answer_of (Listed (length ws)) Done) ws) → OfResult Q (rule room i c st)
  unfolding rule
  rules room i (RegisterName s n p) st f = groups room i (register_name s n p) st f
  rules room i (ReRegisterName s n p) st f = groups room i (re_register_name s n p) st f
  rules room i (UnregisterName s n) st f = groups room i (unregister_name s n) st f
  rules room i (RegisteredNames s) st f = groups room i (registered_names s) st f
  rules room i (WhereisName s n) st f = groups room i (whereis_name s n) st f
  rules room i (NewSGroup s set) st f = groups room i (new_s_group s set) st f
  rules room i (AddNodes s set) st f = groups room i (add_nodes s set) st f
  rules room i (WhereisNameAt j s n) st f = asks j s n st _ (looks j s n st _)
  rules room i (SendAt j s n) st f = asks j s n st _ (looks j s n st _)
  rules room i (Send p) st f = or-result (leb st.size (host p)) (replies Error NodeUnknown st refl) (replies (Pid p) Done _ refl)
  rules room i (SendName s n) st f =
      or-result (bad_group s) (replies Error GroupNameRange st refl)
      (or-result (eqb n 0) (replies Error NameZero st refl) (looks i s n st _))
  rules room i (RemoveNodes s set) st f =
      or-result (bad_group s) (replies Error GroupNameRange st refl)
      (or-result (beyond set st.size) (replies Error NodeUnknown st refl)
      (members i (find s st.groups) st _ (λ g. replies True Done _ refl)))
  rules room i (DeleteSGroup s) st f =
      or-result (bad_group s) (replies Error GroupNameRange st refl)
      (members i (find s st.groups) st _ (λ g. replies True Done _ refl))
  rules room i OwnNodes st f = replies (Nodes (own_set i st) (count (own_set i st))) Done st refl
  rules room i OwnSGroups st f = record { holds = (fitting room (own_list i st.groups) (f refl _)).holds }

  -- ---- calls

  or-call : (t : Bool) {x y : Call} → OfCall Q x → OfCall Q y → OfCall Q (cond t x y)
  or-call true p q = p
  or-call false p q = q

  refuses : (r : Reason) (t : List ℕ) → OfCall Q (refused r t)
  refuses r t = record { holds = plain (answer_of Error r) refl }

  writes : (r : Result) → OfResult Q r → OfCall Q (written r)
  writes r h = record { holds = h.holds }

  calls : (room i : ℕ) (c : Command) (t : List ℕ) → (lists c ≡ true → (ws : List ℕ) → length ws ≤ room → Q (answer_of (Listed (length ws)) Done) ws) → OfCall Q (call room i c t)
  unfolding call step
  calls room i c t f =
      or-call (not (eqb (length t) (table_words names_per_group))) (refuses TableLength t)
      (or-call (not (sound names_per_group t)) (refuses Unsound t)
      (writes _ (or-result (leb (state_of names_per_group t).size i) (replies Error CallerUnknown _ refl) (rules room i c (state_of names_per_group t) f))))

  openings : (N hidden : ℕ) (t : List ℕ) → OfCall Q (opening N hidden t)
  unfolding opening
  openings N hidden t =
      let r : Reason = first (opening_tests (length t) N hidden) in
      or-call (Answers.refuses r) (refuses r t) (record { holds = plain (answer_of Ok Done) refl })

-- ---- for every call

-- the answer says how many words the list has
pub call-count : (room i : ℕ) (c : Command) (t : List ℕ) → count_of (call room i c t).answer.value ≡ length (call room i c t).list
call-count room i c t = (calls (λ a list. count_of a.value ≡ length list) (λ a e. e) room i c t (λ _ ws h. refl)).holds

-- they fit the run
pub call_fits : (room i : ℕ) (c : Command) (t : List ℕ) → length (call room i c t).list ≤ room
call_fits room i c t = (calls (λ a list. length list ≤ room) (λ a e. omega arith) room i c t (λ _ ws h. h)).holds

-- no other command has a list
pub call-bare : (room i : ℕ) (c : Command) (t : List ℕ) → lists c ≡ false → (call room i c t).list ≡ []
call-bare room i c t e = (calls (λ a list. list ≡ []) (λ a e. refl) room i c t (λ f ws h. absurd (let z : ◌≡◌ {A = ℕ} 0 1 = cc in omega arith))).holds

-- nor has opening
pub opening-bare : (N hidden : ℕ) (t : List ℕ) → (opening N hidden t).list ≡ []
opening-bare N hidden t = (openings (λ a list. list ≡ []) (λ a e. refl) N hidden t).holds
