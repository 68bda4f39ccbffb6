-- The step of each command by the reason that the code finds first: Error with that reason, and nothing changed; or what the rest of the
-- rule says. Assumes nothing.
use Rattle.std.specs.Prelude.{◌≡◌, refl, Bool, true, false, not, ◌&&◌, cond, Ok, Err, ℕ, eqb, leb, length}
use Rattle.std.proofs.Common.{sym, ◌∙◌}
use Rattle.std.proofs.Math.Path.{ap}
use Rattle.std.proofs.Math.Logic.{⊎_elim}
use Rattle.nodes.specs.Sets.{has, union, inter, beyond, count}
use Rattle.nodes.specs.Bools.{by_test}
use Rattle.entries.specs.Entries.{host, insert, remove, lookup, holds_pid}
use Rattle.semantics.specs.Sizes.{group_limit, group_names}
use Rattle.semantics.specs.State.{Group, State, find, drop_group}
use Rattle.commands.specs.declared.Command.{Command}
use Rattle.commands.specs.declared.Command.TheVariants.{WhereisNameAt, Send, SendName, SendAt, NewSGroup, RemoveNodes, DeleteSGroup, OwnNodes, OwnSGroups}
use Rattle.semantics.specs.GroupCommands.{GroupCommand, register_name, re_register_name, unregister_name, whereis_name, registered_names, add_nodes, new_s_group, within}
use Rattle.semantics.specs.Ranges.{bad_group, held}
use Rattle.semantics.specs.Steps.{connect, become_free, Result, reply, error, target, hold, join, create, Outcome, done, say, listed, as_member, whereis_in, full, name_words, inside, outcome, apply, settle, group_step, ask, tell, send_on, for_member, left_in, own_set, own_list, read_only, rule, step}
use Rattle.semantics.specs.Within.{step-within}
use Rattle.answers.specs.declared.Value.{Value}
use Rattle.answers.specs.declared.Value.TheVariants.{True, False, Error, Undefined, Pid, Grouped, Nodes, Listed}
use Rattle.answers.specs.declared.Reason.{Reason}
use Rattle.answers.specs.declared.Reason.TheVariants.{Done, CallerUnknown, GroupNameRange, NameZero, NodeUnknown, NameTaken, PidTaken, NotRegistered, NamespaceFull, CallerOutside, GroupTaken, GroupsFull}
use Rattle.place.specs.Seats.{Open, Shut}
use Rattle.inputs.proofs.Reasons.{refuses, passes}
use Rattle.inputs.specs.Judge.{is_done, Verdict, checked, first_reason, caller_reason, group_reason, name_reason, pid_reason, set_reason, creation_reason, asking_reason, host_reason}

-- ---- a reason, and what it leaves of a rule

-- d where the reason is Done, else a refusal with it
abbrev pub judged : {A : Type 0} → (Reason → A) → Reason → A → A
judged refuse r d = cond (is_done r) d (refuse r)

module _ {A : Type 0} (f : Reason → A) where
  -- one test
  tested : (k : Reason) → is_done k ≡ false → (b : Bool) (d : A) → cond b (f k) d ≡ judged f (cond b k Done) d
  tested k h true d = rw h
  tested k h false d = refl

  -- one reason after another
  after : (r q : Reason) (d : A) → judged f r (judged f q d) ≡ judged f (first_reason r q) d
  after r q d = ⊎_elim (λ (e : is_done r ≡ true). rw e) (λ (e : is_done r ≡ false). rw (e, e)) (by_test (is_done r))

  by-caller : (N i : ℕ) (d : A) → cond (leb N i) (f CallerUnknown) d ≡ judged f (caller_reason N i) d
  by-caller N i d = tested CallerUnknown refl (leb N i) d

  by-group : (N i s : ℕ) (d : A) → cond (leb N i) (f CallerUnknown) (cond (bad_group s) (f GroupNameRange) d) ≡ judged f (group_reason N i s) d
  by-group N i s d =
      by-caller N i _ ∙ ap (judged f (caller_reason N i)) (tested GroupNameRange refl (bad_group s) d) ∙ after (caller_reason N i) _ d

  by_name : (N i s n : ℕ) (d : A)
      → cond (leb N i) (f CallerUnknown) (cond (bad_group s) (f GroupNameRange) (cond (eqb n 0) (f NameZero) d)) ≡ judged f (name_reason N i s n) d
  by_name N i s n d = by-group N i s _ ∙ ap (judged f (group_reason N i s)) (tested NameZero refl (eqb n 0) d) ∙ after (group_reason N i s) _ d

  by-pid : (N i s n p : ℕ) (d : A)
      → cond (leb N i) (f CallerUnknown) (cond (bad_group s) (f GroupNameRange) (cond (eqb n 0) (f NameZero) (cond (leb N (host p)) (f NodeUnknown) d)))
      ≡ judged f (pid_reason N i s n p) d
  by-pid N i s n p d =
      by_name N i s n _ ∙ ap (judged f (name_reason N i s n)) (tested NodeUnknown refl (leb N (host p)) d) ∙ after (name_reason N i s n) _ d

  by-set : (N i s set : ℕ) (d : A)
      → cond (leb N i) (f CallerUnknown) (cond (bad_group s) (f GroupNameRange) (cond (beyond set N) (f NodeUnknown) d)) ≡ judged f (set_reason N i s set) d
  by-set N i s set d = by-group N i s _ ∙ ap (judged f (group_reason N i s)) (tested NodeUnknown refl (beyond set N) d) ∙ after (group_reason N i s) _ d

  -- three tests
  three : (k l m : Reason) → is_done k ≡ false → is_done l ≡ false → is_done m ≡ false → (x y z : Bool) (d : A)
      → cond x (f k) (cond y (f l) (cond z (f m) d)) ≡ judged f (cond x k (cond y l (cond z m Done))) d
  three k l m a b c true y z d = rw a
  three k l m a b c false true z d = rw b
  three k l m a b c false false z d = tested m c z d

  by-creation : (N G i s set : ℕ) (taken : Bool) (d : A)
      → cond (leb N i) (f CallerUnknown) (cond (bad_group s) (f GroupNameRange) (cond (beyond set N) (f NodeUnknown)
      (cond (not (has set i)) (f CallerOutside) (cond taken (f GroupTaken) (cond (leb group_limit G) (f GroupsFull) d)))))
      ≡ judged f (creation_reason N G i s set taken) d
  by-creation N G i s set taken d =
      by-set N i s set _ ∙ ap (judged f (set_reason N i s set)) (three CallerOutside GroupTaken GroupsFull refl refl refl (not (has set i)) taken (leb group_limit G) d)
      ∙ after (set_reason N i s set) _ d

  by-asking : (N i j s n : ℕ) (d : A)
      → cond (leb N i) (f CallerUnknown) (cond (leb group_names s) (f GroupNameRange) (cond (eqb n 0) (f NameZero) (cond (leb N j) (f NodeUnknown) d)))
      ≡ judged f (asking_reason N i j s n) d
  by-asking N i j s n d =
      by-caller N i _ ∙ ap (judged f (caller_reason N i)) (three GroupNameRange NameZero NodeUnknown refl refl refl (leb group_names s) (eqb n 0) (leb N j) d)
      ∙ after (caller_reason N i) _ d

  by-host : (N i p : ℕ) (d : A) → cond (leb N i) (f CallerUnknown) (cond (leb N (host p)) (f NodeUnknown) d) ≡ judged f (host_reason N i p) d
  by-host N i p d = by-caller N i _ ∙ ap (judged f (caller_reason N i)) (tested NodeUnknown refl (leb N (host p)) d) ∙ after (caller_reason N i) _ d

-- ---- what the rules say of an s_group, once the arguments pass

-- register_name
abbrev pub register_in : ℕ → ℕ → Group → Outcome
register_in n p g =
    cond (held (lookup n g.names)) (say False NameTaken)
    (cond (holds_pid p g.names) (say False PidTaken)
    (cond (full g.names) (say False NamespaceFull)
    (done (hold g.members (insert (record { name = n; pid = p }) g.names)) True)))

-- re_register_name
abbrev pub re_register_in : ℕ → ℕ → Group → Outcome
re_register_in n p g =
    cond (holds_pid p g.names) (say False PidTaken)
    (cond (not (held (lookup n g.names)) && full g.names) (say False NamespaceFull)
    (done (hold g.members (insert (record { name = n; pid = p }) (remove n g.names))) True))

-- unregister_name
abbrev pub unregister_in : ℕ → Group → Outcome
unregister_in n g =
    cond (held (lookup n g.names))
    (done (hold g.members (remove n g.names)) True)
    (say True NotRegistered)

-- registered_names, with a run of so much room
abbrev pub names_in : ℕ → ℕ → Group → Outcome
names_in room s g = listed room (name_words s g.names)

-- add_nodes
abbrev pub add_in : ℕ → ℕ → Group → Outcome
add_in s set g = done (join set (union g.members set) g.names) (Grouped s set)

-- ---- the steps

-- Error with a reason, and nothing changed
abbrev pub refusal : State → Reason → Result
refusal st r = error r st

-- the step is w
pub record Goes (room i : ℕ) (c : Command) (st : State) (w : Result) : Type 0 where
  pub is : step room i c st ≡ w

-- the step is a refusal by r, or w
pub record Judging (room i : ℕ) (c : Command) (st : State) (r : Reason) (w : Result) : Type 0 where
  pub is : step room i c st ≡ judged (refusal st) r w

-- the step is a refusal by r, or v with reasons 8 and 9, or what k makes of the s_group
pub record ForMembers (room i : ℕ) (c : GroupCommand) (st : State) (r : Reason) (v : Value) (k : Group → Outcome) : Type 0 where
  pub judging : Judging room i (within c) st r (settle (target c) (as_member i v (find (target c) st.groups) k) st)

module _ (room i : ℕ) (st : State) where
  settled : (s : ℕ) (r : Reason) (o : Outcome) → settle s (judged (say Error) r o) st ≡ judged (refusal st) r (settle s o st)
  unfolding apply
  settled s r o = ⊎_elim (λ (e : is_done r ≡ true). rw e) (λ (e : is_done r ≡ false). rw e) (by_test (is_done r))

  within_step : (c : GroupCommand) (r : Reason) (o : Outcome)
      → outcome room st.size (length st.groups) i c (find (target c) st.groups) ≡ judged (say Error) r o
      → Judging room i (within c) st r (settle (target c) o st)
  unfolding group_step
  within_step c r o e = record { is = step-within room i c st ∙ ap (λ (x : Outcome). settle (target c) x st) e ∙ settled (target c) r o }

  for-members : {c : GroupCommand} {r : Reason} {v : Value} {k : Group → Outcome}
      → outcome room st.size (length st.groups) i c (find (target c) st.groups) ≡ judged (say Error) r (as_member i v (find (target c) st.groups) k)
      → ForMembers room i c st r v k
  for-members {c} {r} {v} {k} e = record { judging = within_step c r (as_member i v (find (target c) st.groups) k) e }

  module _ (s n p : ℕ) where
    pub step-register : ForMembers room i (register_name s n p) st (pid_reason st.size i s n p) False (register_in n p)
    unfolding outcome inside
    step-register = for-members (by-pid (say Error) st.size i s n p _)

    pub step-re-register : ForMembers room i (re_register_name s n p) st (pid_reason st.size i s n p) False (re_register_in n p)
    unfolding outcome inside
    step-re-register = for-members (by-pid (say Error) st.size i s n p _)

  module _ (s n : ℕ) where
    pub step-unregister : ForMembers room i (unregister_name s n) st (name_reason st.size i s n) False (unregister_in n)
    unfolding outcome inside
    step-unregister = for-members (by_name (say Error) st.size i s n _)

    pub step-whereis : ForMembers room i (whereis_name s n) st (name_reason st.size i s n) Undefined (whereis_in n)
    unfolding outcome inside
    step-whereis = for-members (by_name (say Error) st.size i s n _)

    pub step-send-name : Judging room i (SendName s n) st (name_reason st.size i s n) (tell (ask i s n st) (send_on i (ask i s n st).found st))
    unfolding step rule
    step-send-name = record { is = by_name (refusal st) st.size i s n _ }

  pub step-names : (s : ℕ) → ForMembers room i (registered_names s) st (group_reason st.size i s) (Listed 0) (names_in room s)
  unfolding outcome inside
  step-names s = for-members (by-group (say Error) st.size i s _)

  module _ (s set : ℕ) where
    pub step-add : ForMembers room i (add_nodes s set) st (set_reason st.size i s set) Error (add_in s set)
    unfolding outcome inside
    step-add = for-members (by-set (say Error) st.size i s set _)

    pub step-new : Judging room i (NewSGroup s set) st (creation_reason st.size (length st.groups) i s set (held (find s st.groups))) (settle s (done (create set) (Grouped s set)) st)
    unfolding outcome inside
    step-new =
        within_step (new_s_group s set) (creation_reason st.size (length st.groups) i s set (held (find s st.groups))) (done (create set) (Grouped s set))
        (by-creation (say Error) st.size (length st.groups) i s set (held (find s st.groups)) _)

    pub step-remove : Judging room i (RemoveNodes s set) st (set_reason st.size i s set) (for_member i (find s st.groups) st (λ g.
        reply True Done (become_free (inter g.members set) (left_in s set g st.groups) st)))
    unfolding step rule
    step-remove = record { is = by-set (refusal st) st.size i s set _ }

  pub step-delete : (s : ℕ) → Judging room i (DeleteSGroup s) st (group_reason st.size i s) (for_member i (find s st.groups) st (λ g.
      reply True Done (become_free g.members (drop_group s st.groups) st)))
  unfolding step rule
  step-delete s = record { is = by-group (refusal st) st.size i s _ }

  module _ (j s n : ℕ) where
    pub step-whereis-at : Judging room i (WhereisNameAt j s n) st (asking_reason st.size i j s n) (tell (ask j s n st) (connect i j st))
    unfolding step rule
    step-whereis-at = record { is = by-asking (refusal st) st.size i j s n _ }

    pub step-send_at : Judging room i (SendAt j s n) st (asking_reason st.size i j s n) (tell (ask j s n st) (send_on i (ask j s n st).found (connect i j st)))
    unfolding step rule
    step-send_at = record { is = by-asking (refusal st) st.size i j s n _ }

  pub step-send : (p : ℕ) → Judging room i (Send p) st (host_reason st.size i p) (reply (Pid p) Done (connect i (host p) st))
  unfolding step rule
  step-send p = record { is = by-host (refusal st) st.size i p _ }

  pub step-own-nodes : Judging room i OwnNodes st (caller_reason st.size i) (reply (Nodes (own_set i st) (count (own_set i st))) Done st)
  unfolding step rule
  step-own-nodes = record { is = by-caller (refusal st) st.size i _ }

  pub step-own-s-groups : Judging room i OwnSGroups st (caller_reason st.size i) (read_only (listed room (own_list i st.groups)) st)
  unfolding step rule
  step-own-s-groups = record { is = by-caller (refusal st) st.size i _ }

-- ---- at a return, where x is what the code's check answered

module _ {room i : ℕ} {c : Command} {st : State} {r : Reason} {w : Result} (j : Judging room i c st r w) {x : Verdict} (e : x ≡ checked r) where
  pub refused : {q : Reason} → x ≡ Err q → Goes room i c st (error q st)
  refused {q} h =
      let f = refuses e h in
      record { is = j.is ∙ ap (λ (y : Reason). judged (refusal st) y w) (sym f.0) ∙ ap (λ (b : Bool). cond b w (error q st)) f.1 }

  pub passed : x ≡ Ok tt → Goes room i c st w
  passed h = record { is = j.is ∙ ap (λ (y : Reason). judged (refusal st) y w) (passes e h) }

module _ {room i : ℕ} {c : GroupCommand} {st : State} {r : Reason} {v : Value} {k : Group → Outcome} (f : ForMembers room i c st r v k) {x : Verdict} (e : x ≡ checked r)
    (h : x ≡ Ok tt) where
  pub denied : {d : Reason} → Shut i (target c) st.groups d → Goes room i (within c) st (reply v d st)
  unfolding apply
  denied d = record { is = (passed f.judging e h).is ∙ ap (λ (o : Outcome). settle (target c) o st) (d.outcomes v k) }

  pub allowed : {at : ℕ} (o : Open i (target c) at st.groups) → Goes room i (within c) st (settle (target c) (k o.seat.group) st)
  allowed o = record { is = (passed f.judging e h).is ∙ rw (o.seat.finds, o.member) }
