-- All fifteen commands: where 000 has a rule for the reason, a step of a regular state is the published transition. Assumes nothing.
use Rattle.std.specs.Prelude.{◌≡◌, refl, Bool, true, false, cond, [], ℕ, ◌<◌, eqb, ltb, leb, length}
use Rattle.std.proofs.Common.{sym, ap, ◌∙◌, subst, leb-false}
use Rattle.std.proofs.Math.Option.{Option, none, some}
use Rattle.nodes.specs.Sets.{has, beyond}
use Rattle.entries.specs.Entries.{host, lookup}
use Rattle.semantics.specs.Sizes.{group_names}
use Rattle.semantics.specs.State.{Group, State, find}
use Rattle.semantics.specs.Steps as W
use Rattle.commands.specs.declared.Command.{Command}
use Rattle.commands.specs.declared.Command.TheVariants.{RegisterName, ReRegisterName, UnregisterName, RegisteredNames, WhereisName, WhereisNameAt, Send, SendName, SendAt, NewSGroup, AddNodes, RemoveNodes, DeleteSGroup, OwnNodes, OwnSGroups}
use Rattle.semantics.specs.GroupCommands.{GroupCommand, register_name, re_register_name, unregister_name, whereis_name, registered_names, add_nodes, new_s_group, within}
use Rattle.semantics.specs.Ranges.{bad_group}
use Rattle.semantics.specs.Steps.{Result, reply, error, say, settle, read_only, target, inside, outcome, group_step, ask, send_on, tell, own_list, connect, rule, step}
use Rattle.answers.specs.declared.Value.TheVariants.{Error}
use Rattle.answers.specs.declared.Reason.{Reason}
use Rattle.answers.specs.declared.Reason.TheVariants.{CallerUnknown, GroupNameRange, NameZero, NodeUnknown, NotMember, NotRegistered, RunShort}
use Rattle.semantics.specs.Regular.{Regular}
use Rattle.semantics.specs.Truth.{neither}
use Rattle.semantics.proofs.Lookups.{host-asked}
use Rattle.semantics.specs.Connected.{regular-connect, size-connect}
use Rattle.published.specs.Published as P
use Rattle.published.specs.Published.{of_some, FindName, found_by, then_send, AddConnections, transition}
use Rattle.published.proofs.SeenState.{seen, published, said, listed}
use Rattle.published.proofs.GroupsSeen.{on_some, member, groups_seen}
use Rattle.published.proofs.Follows.{Follows, Agrees, by-refusal, for-one}
use Rattle.published.proofs.NamingRules.{registers, re-registers, unregisters, looks-up, lists}
use Rattle.published.proofs.Joining.{adds, creates}
use Rattle.published.proofs.ConnectRule.{connects}
use Rattle.published.proofs.Leaving.{deletes, removes}
use Rattle.published.proofs.OwnRules.{own-said, own_list-seen}

-- ---- the seven that name one s_group

module _ {cap : ℕ} (st : State) (w : Regular cap st) (room G i : ℕ) where
  agree-inside : (c : GroupCommand) → bad_group (target c) ≡ false
      → Agrees (settle (target c) (inside room st.size G i c (find (target c) st.groups)) st) (transition (within c) i (published st))
  agree-inside (register_name s n p) ok = registers st w room G i s n p
  agree-inside (re_register_name s n p) ok = re-registers st w room G i s n p
  agree-inside (unregister_name s n) ok = unregisters st w room G i s n
  agree-inside (whereis_name s n) ok = looks-up st w room G i s n (neither (eqb s 0) (leb group_names s) ok).0
  agree-inside (registered_names s) ok = lists st w room G i s (leb-false group_names s (neither (eqb s 0) (leb group_names s) ok).1)
  agree-inside (add_nodes s set) ok = adds st w room G i s (leb-false group_names s (neither (eqb s 0) (leb group_names s) ok).1) set
  agree-inside (new_s_group s set) ok = creates st w room G i s (leb-false group_names s (neither (eqb s 0) (leb group_names s) ok).1) set

-- ---- lookups and sends

module _ (st : State) (j s n : ℕ) where
  -- what FindName finds
  find-seen : FindName j s n (groups_seen st.groups) ≡ (ask j s n st).found
  find-seen = go (eqb s 0) (find s st.groups)
    where
      inner : (x : Bool) (m : ℕ) (o : Option ℕ) → cond x o none ≡ (cond x (W.looked m o) (W.nothing_found NotMember)).found
      inner true m o = refl
      inner false m o = refl

      go : (x : Bool) (o : Option Group) → cond x none (of_some none (λ g. cond (g.nodes j) (g.namespace n) none) (on_some seen o))
          ≡ (cond x (W.nothing_found NotRegistered) (W.look_in j n o)).found
      go true o = refl
      go false none = refl
      go false (some g) = inner (has g.members j) g.members (lookup n g.names)

  -- what whereis_name/2 finds: for who is not a member, FindName finds nothing
  found_by-seen : found_by j s n (groups_seen st.groups) ≡ (ask j s n st).found
  found_by-seen = same (eqb s 0) (find s st.groups) ∙ find-seen
    where
      none_in : (x : Bool) → ◌≡◌ {A = Option ℕ} (cond x none none) none
      none_in true = refl
      none_in false = refl

      inner : (x : Bool) (o : Option ℕ) → cond x (cond x o none) none ≡ cond x o none
      inner true o = refl
      inner false o = refl

      same : (x : Bool) (o : Option Group)
          → cond (member j (on_some seen o)) (cond x none (of_some none (λ g. cond (g.nodes j) (g.namespace n) none) (on_some seen o))) none
          ≡ cond x none (of_some none (λ g. cond (g.nodes j) (g.namespace n) none) (on_some seen o))
      same true o = none_in (member j (on_some seen o))
      same false none = refl
      same false (some g) = inner (has g.members j) (lookup n g.names)

pid-said : (o : Option ℕ) → said (of_some P.Undefined P.Pid o) ≡ (W.pid_or_undefined o, [])
pid-said none = refl
pid-said (some p) = refl

-- a lookup's answer, then the send to the pid found
sends : {cap : ℕ} (st : State) → Regular cap st → (i : ℕ) → i < st.size → (o : Option ℕ) → ((p : ℕ) → o ≡ some p → host p < st.size) → (r : Reason)
    → Follows (reply (W.pid_or_undefined o) r (send_on i o st)) (then_send i o (published st))
sends st w i i-in none near r = record { state = refl; said_is = refl }
sends st w i i-in (some p) near r = record { state = connects st w i (host p) i-in (near p refl); said_is = refl }

-- ---- all fifteen

abbrev itself : Result → Result
itself r = r

agree-group : {cap : ℕ} (room i : ℕ) (c : GroupCommand) (st : State) → Regular cap st → Agrees (group_step room i c st) (transition (within c) i (published st))
unfolding group_step outcome
agree-group room i c st w =
    by-refusal (λ o. settle (target c) o st) (leb st.size i) (say Error CallerUnknown) _ _ refl λ x.
    by-refusal (λ o. settle (target c) o st) (bad_group (target c)) (say Error GroupNameRange) _ _ refl λ y.
    agree-inside st w room (length st.groups) i c y

agree-rule : {cap : ℕ} (room i : ℕ) (c : Command) (st : State) → Regular cap st → i < st.size → Agrees (rule room i c st) (transition c i (published st))
unfolding rule published transition
agree-rule room i (RegisterName s n p) st w h = agree-group room i (register_name s n p) st w
agree-rule room i (ReRegisterName s n p) st w h = agree-group room i (re_register_name s n p) st w
agree-rule room i (UnregisterName s n) st w h = agree-group room i (unregister_name s n) st w
agree-rule room i (RegisteredNames s) st w h = agree-group room i (registered_names s) st w
agree-rule room i (WhereisName s n) st w h = agree-group room i (whereis_name s n) st w
agree-rule room i (NewSGroup s set) st w h = agree-group room i (new_s_group s set) st w
agree-rule room i (AddNodes s set) st w h = agree-group room i (add_nodes s set) st w
agree-rule room i (WhereisNameAt j s n) st w h =
    by-refusal itself (leb group_names s) (error GroupNameRange st) _ _ refl λ x.
    by-refusal itself (eqb n 0) (error NameZero st) _ _ refl λ y.
    by-refusal itself (leb st.size j) (error NodeUnknown st) _ _ refl λ z k.
    record {
      state = connects st w i j h (leb-false st.size j z);
      said_is = ap (λ (o : Option ℕ). said (of_some P.Undefined P.Pid o)) (find-seen st j s n) ∙ pid-said (ask j s n st).found;
    }
agree-rule room i (SendAt j s n) st w h =
    by-refusal itself (leb group_names s) (error GroupNameRange st) _ _ refl λ x.
    by-refusal itself (eqb n 0) (error NameZero st) _ _ refl λ y.
    by-refusal itself (leb st.size j) (error NodeUnknown st) _ _ refl λ z k.
    let j-in : j < st.size = leb-false st.size j z in
    subst (λ (q : P.Step). Follows (tell (ask j s n st) (send_on i (ask j s n st).found (connect i j st))) q)
    (ap (then_send i (ask j s n st).found) (connects st w i j h j-in)
    ∙ ap (λ (o : Option ℕ). then_send i o (AddConnections i j (published st))) (sym (find-seen st j s n)))
    (sends (connect i j st) (regular-connect w i j h j-in) i (rw (size-connect i j st) h) (ask j s n st).found (rw (size-connect i j st) (host-asked w j s n)) _)
agree-rule room i (Send p) st w h =
    by-refusal itself (leb st.size (host p)) (error NodeUnknown st) _ _ refl λ x k.
    record { state = connects st w i (host p) h (leb-false st.size (host p) x); said_is = refl }
agree-rule room i (SendName s n) st w h =
    by-refusal itself (bad_group s) (error GroupNameRange st) _ _ refl λ x.
    by-refusal itself (eqb n 0) (error NameZero st) _ _ refl λ y k.
    subst (λ (o : Option ℕ). Follows (tell (ask i s n st) (send_on i (ask i s n st).found st)) (then_send i o (published st))) (sym (found_by-seen st i s n))
    (sends st w i h (ask i s n st).found (host-asked w i s n) _)
agree-rule room i (RemoveNodes s set) st w h =
    by-refusal itself (bad_group s) (error GroupNameRange st) _ _ refl λ x.
    by-refusal itself (beyond set st.size) (error NodeUnknown st) _ _ refl λ y.
    for-one st s i (find s st.groups) _ _ λ g f k. record { state = removes st w s g f set; said_is = refl }
agree-rule room i (DeleteSGroup s) st w h =
    by-refusal itself (bad_group s) (error GroupNameRange st) _ _ refl λ x.
    for-one st s i (find s st.groups) _ _ λ g f k. record { state = deletes st w s g f; said_is = refl }
agree-rule room i OwnNodes st w h = λ k. record { state = refl; said_is = own-said st w i h }
agree-rule room i OwnSGroups st w h =
    by-refusal (λ o. read_only o st) (ltb room (length (own_list i st.groups))) (say Error RunShort) _ _ refl λ x k.
    record { state = refl; said_is = ap listed (own_list-seen st w i) }

pub agree : {cap : ℕ} (room i : ℕ) (c : Command) (st : State) → Regular cap st → Agrees (step room i c st) (transition c i (published st))
unfolding step
agree room i c st w = by-refusal itself (leb st.size i) (error CallerUnknown st) _ _ refl λ x. agree-rule room i c st w (leb-false st.size i x)
