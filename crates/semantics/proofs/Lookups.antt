-- What a lookup finds: a name of an s_group that the asking node is a member of, and beside the pid whether its host is a member too; and how the four
-- commands that look a name up answer with it. Assumes nothing.
use Rattle.std.specs.Prelude.{◌≡◌, ◌⊎◌, Bool, true, false, cond, ℕ, ◌<◌, eqb, leb, length}
use Rattle.std.proofs.Math.Path.{refl, subst}
use Rattle.std.proofs.Common.{sym, ◌∙◌, inl, inr, ⊎_elim, arith}
use Rattle.std.proofs.Math.Option.{Option, none, some}
use Rattle.nodes.specs.Sets.{has}
use Rattle.nodes.specs.Bools.{by_test}
use Rattle.entries.specs.Entries.{host, lookup}
use Rattle.answers.specs.Answers.{refuses, answer_of}
use Rattle.answers.specs.declared.Answer.{Answer}
use Rattle.answers.specs.declared.Value.{Value}
use Rattle.answers.specs.declared.Value.TheVariants.{Ok, True, False, Error, Undefined, Pid, Grouped, Nodes, Listed}
use Rattle.answers.specs.declared.Reason.{Reason}
use Rattle.answers.specs.declared.Reason.TheVariants.{CallerUnknown, GroupNameRange, NameZero, NodeUnknown, NotMember, NotRegistered}
use Rattle.commands.specs.declared.Command.{Command}
use Rattle.semantics.specs.Sizes.{group_names}
use Rattle.semantics.specs.Ranges.{bad_group}
use Rattle.semantics.specs.State.{Group, State, find}
use Rattle.semantics.specs.GroupCommands.{whereis_name}
use Rattle.semantics.specs.Asks.{Looks, lookup_here, lookup_at, send_here, send_at}
use Rattle.semantics.specs.Truth.{neither}
use Rattle.semantics.specs.Steps.{Outcome, Result, error, say, as_member, pid_or_undefined, beside, look_reason, whereis_in, looked, nothing_found, look_in, ask, tell, asking, settle, apply, inside, outcome, group_step, rule, step}
use Rattle.semantics.specs.Regular.{Regular}
use Rattle.semantics.specs.NamesKept.{host-found}
use Rattle.semantics.specs.Changed.{regular-found}

-- ---- what is found

-- p is found under n in the s_group s, for its member j
pub record FoundIn (j s n p : ℕ) (st : State) : Type 0 where
  pub group : Group
  pub there : find s st.groups ≡ some group
  pub member : has group.members j ≡ true
  pub registered : lookup n group.names ≡ some p
  pub told : (ask j s n st).reason ≡ beside (has group.members (host p))

nothing_there : {A : Type 0} {p : ℕ} → none ≡ some p → A
nothing_there q = let z : ◌≡◌ {A = ℕ} 0 1 = cc in absurd (omega arith)

pub found_in : (j s n p : ℕ) (st : State) → (ask j s n st).found ≡ some p → FoundIn j s n p st
found_in j s n p st = go (eqb s 0) refl (find s st.groups) refl
  where
    by-member : eqb s 0 ≡ false → (g : Group) → find s st.groups ≡ some g → (x : Bool) → has g.members j ≡ x
        → (cond x (looked g.members (lookup n g.names)) (nothing_found NotMember)).found ≡ some p → FoundIn j s n p st
    by-member z g f true m q = record { group = g; there = f; member = m; registered = q; told = rw (z, f, m, q) }
    by-member z g f false m q = nothing_there q

    go : (x : Bool) → eqb s 0 ≡ x → (o : Option Group) → find s st.groups ≡ o
        → (cond x (nothing_found NotRegistered) (look_in j n o)).found ≡ some p → FoundIn j s n p st
    go true z o f q = nothing_there q
    go false z none f q = nothing_there q
    go false z (some g) f q = by-member z g f (has g.members j) refl q

-- and its host is on the roster
pub host-asked : {cap : ℕ} {st : State} → Regular cap st → (j s n p : ℕ) → (ask j s n st).found ≡ some p → host p < st.size
host-asked {st = st} w j s n p e =
    let f = found_in j s n p st e in
    host-found st.size n p f.group.names (regular-found w s f.group f.there).names_sound.hosts f.registered

-- the reason beside a pid refuses nothing
pub beside-refuses : (x : Bool) → refuses (beside x) ≡ false
beside-refuses true = refl
beside-refuses false = refl

-- where nothing is found, the reason refuses
missing : (j s n : ℕ) (st : State) → (ask j s n st).found ≡ none → refuses (ask j s n st).reason ≡ true
missing j s n st = go (eqb s 0) (find s st.groups)
  where
    in-names : (m : ℕ) (o : Option ℕ) → o ≡ none → refuses (look_reason m o) ≡ true
    in-names m none q = refl
    in-names m (some p) q = nothing_there (sym q)

    by-member : (g : Group) (x : Bool) → (cond x (looked g.members (lookup n g.names)) (nothing_found NotMember)).found ≡ none
        → refuses (cond x (looked g.members (lookup n g.names)) (nothing_found NotMember)).reason ≡ true
    by-member g true q = in-names g.members (lookup n g.names) q
    by-member g false q = refl

    go : (x : Bool) (o : Option Group) → (cond x (nothing_found NotRegistered) (look_in j n o)).found ≡ none
        → refuses (cond x (nothing_found NotRegistered) (look_in j n o)).reason ≡ true
    go true o q = refl
    go false none q = refl
    go false (some g) q = by-member g (has g.members j) q

-- ---- how it is answered

-- whereis_name/2 tells what its caller finds
pub whereis-tells : (i s n : ℕ) (st : State) (o : Option Group)
    → settle s (as_member i Undefined o (whereis_in n)) st ≡ tell (look_in i n o) st
unfolding apply
whereis-tells i s n st none = refl
whereis-tells i s n st (some g) = ⊎_elim (λ (h : has g.members i ≡ true). rw h) (λ (h : has g.members i ≡ false). rw h) (by_test (has g.members i))

-- the pid of a value
abbrev pub pid_of : Value → Option ℕ
pid_of Ok = none
pid_of True = none
pid_of False = none
pid_of Error = none
pid_of Undefined = none
pid_of (Pid p) = some p
pid_of (Grouped s set) = none
pid_of (Nodes set k) = none
pid_of (Listed k) = none

-- an answer to a lookup of n in s by j: the pid that is found, with the lookup's reason; or a refusal, and no pid
pub record Told (j s n : ℕ) (st : State) (a : Answer) : Type 0 where
  pub is : ((p : ℕ) × FoundIn j s n p st × (a ≡ answer_of (Pid p) (ask j s n st).reason)) ⊎ ((refuses a.reason ≡ true) × (pid_of a.value ≡ none))

module _ (j s n : ℕ) (st : State) where
  -- one test more, of what has an answer
  or_else : {A : Type 0} (F : A → Answer) (x : Bool) (a b : A) → Told j s n st (F a) → (x ≡ false → Told j s n st (F b)) → Told j s n st (F (cond x a b))
  or_else F true a b h k = h
  or_else F false a b h k = k refl

  turned_down : (r : Reason) → refuses r ≡ true → Told j s n st (answer_of Error r)
  turned_down r h = record { is = inr (h, refl) }

  tells : (u : State) → Told j s n st (tell (ask j s n st) u).answer
  tells u = go (ask j s n st).found refl
    where
      go : (o : Option ℕ) → (ask j s n st).found ≡ o → Told j s n st (answer_of (pid_or_undefined o) (ask j s n st).reason)
      go none e = record { is = inr (missing j s n st e, refl) }
      go (some p) e = record { is = inl (p, found_in j s n p st e, refl) }

  -- a result that is refused by a test, or goes on
  or-error : (x : Bool) (r : Reason) (b : Result) → refuses r ≡ true → (x ≡ false → Told j s n st b.answer) → Told j s n st (cond x (error r st) b).answer
  or-error x r b h = or_else (λ (q : Result). q.answer) x (error r st) b (turned_down r h)

  -- and an outcome
  or-say : (x : Bool) (r : Reason) (b : Outcome) → refuses r ≡ true → (x ≡ false → Told j s n st b.answer) → Told j s n st (cond x (say Error r) b).answer
  or-say x r b h = or_else (λ (q : Outcome). q.answer) x (say Error r) b (turned_down r h)

  by-asking : (u : State) → Told j s n st (asking j s n st (tell (ask j s n st) u)).answer
  by-asking u =
      or-error (leb group_names s) GroupNameRange _ refl λ x.
      or-error (eqb n 0) NameZero _ refl λ y.
      or-error (leb st.size j) NodeUnknown _ refl λ z. tells u

  by-whereis : (room G : ℕ) → Told j s n st (outcome room st.size G j (whereis_name s n) (find s st.groups)).answer
  unfolding outcome inside
  by-whereis room G =
      or-say (leb st.size j) CallerUnknown _ refl λ x.
      or-say (bad_group s) GroupNameRange _ refl λ y.
      or-say (eqb n 0) NameZero _ refl λ z.
      let named : tell (look_in j n (find s st.groups)) st ≡ tell (ask j s n st) st = rw (neither (eqb s 0) (leb group_names s) y).0 in
      subst (λ (r : Result). Told j s n st r.answer) (sym (whereis-tells j s n st (find s st.groups) ∙ named)) (tells st)

-- who asks
abbrev pub asker : {c : Command} {s n : ℕ} → Looks c s n → ℕ → ℕ
asker lookup_here i = i
asker (lookup_at {j}) i = j
asker send_here i = i
asker (send_at {j}) i = j

-- each of the four is answered so
pub lookup-told : (room i : ℕ) {c : Command} {s n : ℕ} (k : Looks c s n) (st : State) → Told (asker k i) s n st (step room i c st).answer
unfolding step rule group_step
lookup-told room i (lookup_here {s} {n}) st = or-error i s n st (leb st.size i) CallerUnknown _ refl λ x. by-whereis i s n st room (length st.groups)
lookup-told room i (lookup_at {j} {s} {n}) st = or-error j s n st (leb st.size i) CallerUnknown _ refl λ x. by-asking j s n st _
lookup-told room i (send_here {s} {n}) st =
    or-error i s n st (leb st.size i) CallerUnknown _ refl λ x.
    or-error i s n st (bad_group s) GroupNameRange _ refl λ y.
    or-error i s n st (eqb n 0) NameZero _ refl λ z. tells i s n st st
lookup-told room i (send_at {j} {s} {n}) st = or-error j s n st (leb st.size i) CallerUnknown _ refl λ x. by-asking j s n st _
