-- The reason of a step is the first that holds over the published state, and where it is 01's refusal, the answer is 01's and nothing changes.
-- Assumes nothing.
use Rattle.std.specs.Prelude.{◌≡◌, Bool, true, false, not, ◌&&◌, cond, ℕ, ◌^◌, ◌≤◌, ◌<◌, eqb, leb, length}
use Rattle.std.proofs.Math.Path.{refl, ap, fun_ext}
use Rattle.std.proofs.Common.{sym, ap₂, ◌∙◌, subst, ⊎_elim, true≢false, arith, lt-ltb, le-ltb, le-leb, leb-false, eqb-true, ne_eqb}
use Rattle.std.proofs.lemmas.Bool.{false≢true, lt-leb}
use Rattle.std.proofs.Math.Option.{Option, none, some}
use mathlib.Core.List.{List, [], ◌∷◌, ◌++◌}
use Rattle.std.proofs.Math.Dec.{ltb}
use Rattle.nodes.specs.Sets.{node_limit, has, beyond}
use Rattle.nodes.specs.Bools.{by_lt}
use Rattle.entries.specs.Entries.{half_word, host, lookup, holds_pid}
use Rattle.entries.specs.NamespaceSound.{Ascending}
use Rattle.semantics.specs.Sizes.{group_limit, names_per_group, group_names}
use Rattle.semantics.specs.State.{Group, State, find}
use Rattle.semantics.specs.Steps as W
use Rattle.commands.specs.declared.Command.{Command}
use Rattle.commands.specs.declared.Command.TheVariants.{RegisterName, ReRegisterName, UnregisterName, RegisteredNames, WhereisName, WhereisNameAt, Send, SendName, SendAt, NewSGroup, AddNodes, RemoveNodes, DeleteSGroup, OwnNodes, OwnSGroups}
use Rattle.semantics.specs.GroupCommands.{GroupCommand, register_name, re_register_name, unregister_name, whereis_name, registered_names, add_nodes, new_s_group, within}
use Rattle.semantics.specs.Ranges.{held, bad_group}
use Rattle.semantics.specs.FirstReason.{Test, ◌when◌, first}
use Rattle.semantics.specs.Steps.{Result, Outcome, Effect, error, say, done, settle, read_only, inside, outcome, group_step, apply, for_member, tell, ask, look_in, look_reason, own_list, rule, step}
use Rattle.answers.specs.declared.Value.{Value}
use Rattle.answers.specs.declared.Value.TheVariants.{True, False, Error, Undefined, Listed}
use Rattle.answers.specs.declared.Reason.{Reason}
use Rattle.answers.specs.declared.Reason.TheVariants.{Done, CallerUnknown, GroupNameRange, NameZero, NodeUnknown, GroupUnknown, NotMember, NameTaken, PidTaken, NotRegistered, NamespaceFull, CallerOutside, GroupTaken, GroupsFull, RunShort, HostOutside}
use Rattle.semantics.specs.Regular.{Rising, Regular}
use Rattle.semantics.specs.Truth.{neither}
use Rattle.semantics.specs.Within.{step-within}
use Rattle.semantics.specs.Fits.{Fits}
use Rattle.semantics.specs.Changed.{regular-found}
use Rattle.published.specs.Published.{Set, of_some, any, SGroup, Namespace, gives, has_pid, transition}
use Rattle.published.proofs.SeenState.{seen, published, said, how_many}
use Rattle.published.specs.Refusals.{off_roster, strays, names_in, full, run_short, tests_set, tests_at, tests_host, tests, ruled, refusal}
use Rattle.published.proofs.SomeBelow.{any-beyond}
use Rattle.published.proofs.GroupsSeen.{on_some, member, groups_seen, roster-seen, count-groups}
use Rattle.published.proofs.NamesSeen.{pid-seen, count-names, words-seen}
use Rattle.published.proofs.OwnRules.{own_list-seen}
use Rattle.published.proofs.Follows.{Follows}

-- ---- why a step answers as it does

-- the reason of a result; where 000 has no rule for it, it is 01's refusal
pub record Because (r : Result) (why : Reason) (st : State) : Type 0 where
  pub reason_is : r.answer.reason ≡ why
  pub refused : ruled why ≡ false → Follows r (gives (refusal why) (published st))

-- the reason is the first of these that holds
record Told (r : Result) (ts : List Test) (st : State) : Type 0 where
  why : Because r (first ts) st

module _ (st : State) where
  -- a reason for which 000 has a rule
  mild : (r : Result) (why : Reason) → r.answer.reason ≡ why → ruled why ≡ true → Because r why st
  mild r why e h = record { reason_is = e; refused = λ k. absurd (true≢false (sym h ∙ k)) }

  -- the rule's main case
  last : (r : Result) → r.answer.reason ≡ Done → Told r [] st
  last r e = record { why = mild r Done e refl }

  -- one test more
  module _ {A : Type 0} (F : A → Result) where
    by : (x y : Bool) (r : Reason) (a b : A) (ts : List Test) → y ≡ x → Because (F a) r st → (x ≡ false → Told (F b) ts st)
        → Told (F (cond x a b)) (r when y ∷ ts) st
    by x true r a b ts e p q = record { why = subst (λ (z : Bool). Because (F (cond z a b)) r st) e p }
    by x false r a b ts e p q = record { why = subst (λ (z : Bool). Because (F (cond z a b)) (first ts) st) e (q (sym e)).why }

  -- an outcome that 01 refuses
  refuses : (s : ℕ) (r : Reason) (v : Value) → said (refusal r) ≡ (v, []) → Because (settle s (say v r) st) r st
  unfolding apply
  refuses s r v e = record { reason_is = refl; refused = λ h. record { state = refl; said_is = e } }

  -- a test that gives Error: of an outcome, and of a result
  or-error : (s : ℕ) (x y : Bool) (r : Reason) (b : Outcome) (ts : List Test) → y ≡ x → said (refusal r) ≡ (Error, [])
      → (x ≡ false → Told (settle s b st) ts st) → Told (settle s (cond x (say Error r) b) st) (r when y ∷ ts) st
  or-error s x y r b ts e h = by (λ o. settle s o st) x y r (say Error r) b ts e (refuses s r Error h)

  or-wrong : (x y : Bool) (r : Reason) (b : Result) (ts : List Test) → y ≡ x → said (refusal r) ≡ (Error, [])
      → (x ≡ false → Told b ts st) → Told (cond x (error r st) b) (r when y ∷ ts) st
  or-wrong x y r b ts e h = by (λ a. a) x y r (error r st) b ts e (record { reason_is = refl; refused = λ k. record { state = refl; said_is = h } })

  -- reasons 8 and 9
  by-member : (s i : ℕ) (v : Value) (o : Option Group) (k : Group → Outcome) (ts : List Test)
      → ((g : Group) → o ≡ some g → has g.members i ≡ true → Told (settle s (k g) st) ts st)
      → Told (settle s (W.as_member i v o k) st) (GroupUnknown when not (held (on_some seen o)) ∷ NotMember when not (member i (on_some seen o)) ∷ ts) st
  by-member s i v none k ts h = record { why = mild _ GroupUnknown refl refl }
  by-member s i v (some g) k ts h = go (has g.members i) refl
    where
      go : (x : Bool) → has g.members i ≡ x → Told (settle s (cond x (k g) (say v NotMember)) st) (GroupUnknown when false ∷ NotMember when not x ∷ ts) st
      go true e = record { why = (h g refl e).why }
      go false e = record { why = mild _ NotMember refl refl }

  for-one : (i : ℕ) (o : Option Group) (k : Group → Result) → ((g : Group) → (k g).answer.reason ≡ Done)
      → Told (for_member i o st k) (GroupUnknown when not (held (on_some seen o)) ∷ NotMember when not (member i (on_some seen o)) ∷ []) st
  for-one i none k h = record { why = mild _ GroupUnknown refl refl }
  for-one i (some g) k h = go (has g.members i)
    where
      go : (x : Bool) → Told (cond x (k g) (error NotMember st)) (GroupUnknown when false ∷ NotMember when not x ∷ []) st
      go true = record { why = mild (k g) Done (h g) refl }
      go false = record { why = mild _ NotMember refl refl }

-- ---- the tests are the library's

on_roster : (st : State) (i : ℕ) → held ((published st).nds i) ≡ ltb i st.size
unfolding published
on_roster st i = roster-seen st.size st.hidden st.links (groups_seen st.groups) i

roster-test : (st : State) (i : ℕ) → off_roster i (published st) ≡ leb st.size i
roster-test st i = ap not (on_roster st i) ∙ ⊎_elim
    (λ (l : i < st.size). rw (lt-ltb i st.size l, lt-leb st.size i l))
    (λ (l : st.size ≤ i). rw (le-ltb i st.size l, le-leb st.size i l))
    (by_lt i st.size)

stray-test : (st : State) (set : ℕ) → set < 2 ^ node_limit → strays (has set) (published st) ≡ beyond set st.size
stray-test st set small = ap (any node_limit) (fun_ext (λ i. ap (λ (x : Bool). has set i && not x) (on_roster st i))) ∙ any-beyond set st.size small

module _ {cap : ℕ} (st : State) (w : Regular cap st) (s : ℕ) (g : Group) (f : find s st.groups ≡ some g) where
  names-are : (n : ℕ) → names_in s (published st) n ≡ lookup n g.names
  unfolding published
  names-are n = ap (λ (o : Option Group). of_some none (λ h. h.namespace n) (on_some seen o)) f

  names-up : Ascending 0 g.names
  names-up = (regular-found w s g f).names_sound.names

  name-test : (n : ℕ) → held (names_in s (published st) n) ≡ held (lookup n g.names)
  name-test n = ap held (names-are n)

  pid-test : (p : ℕ) → has_pid p (names_in s (published st)) ≡ holds_pid p g.names
  pid-test p = ap (has_pid p) (fun_ext names-are) ∙ pid-seen p g.names names-up

  full-test : full s (published st) ≡ W.full g.names
  full-test = ap (λ (ns : Namespace). leb names_per_group (how_many half_word (λ n. held (ns n)))) (fun_ext names-are)
      ∙ ap (leb names_per_group) (count-names g.names names-up)

  list-test : (room i : ℕ) → s < group_names → has g.members i ≡ true
      → run_short room (transition (RegisteredNames s) i (published st)) ≡ ltb room (length (W.name_words s g.names))
  unfolding published transition
  list-test room i small m = rw (f, m) (ap (λ (l : List ℕ). ltb room (length l)) (words-seen s small g.names names-up))

-- ---- the seven that name one s_group

-- the last two tests of a lookup that found o in an s_group of these nodes
abbrev found_tests : Set → Option ℕ → List Test
found_tests nodes o = NotRegistered when not (held o) ∷ HostOutside when of_some false (λ p. not (nodes (host p))) o ∷ []

-- the reason of a lookup by a member is the first of these that holds, and 000 has a rule for it
found_why : (m : ℕ) (o : Option ℕ) → (look_reason m o ≡ first (found_tests (has m) o)) × (ruled (first (found_tests (has m) o)) ≡ true)
found_why m none = (refl, refl)
found_why m (some p) = go (has m (host p))
  where
    go : (x : Bool) → (W.beside x ≡ cond (not x) HostOutside Done) × (ruled (cond (not x) HostOutside Done) ≡ true)
    go true = (refl, refl)
    go false = (refl, refl)

looked_up : (st : State) (s n : ℕ) (g : Group) → find s st.groups ≡ some g
    → Told (settle s (W.whereis_in n g) st)
    (NotRegistered when not (held (names_in s (published st) n)) ∷ tests_host s n (published st)) st
unfolding published
looked_up st s n g f =
    let why = found_why g.members (lookup n g.names) in
    subst (λ (ts : List Test). Told (settle s (W.whereis_in n g) st) ts st)
    (sym (ap (λ (o : Option Group). found_tests (λ i. member i (on_some seen o)) (of_some none (λ h. h.namespace n) (on_some seen o))) f))
    (record { why = mild st _ _ why.0 why.1 })

unregistered : (st : State) (s : ℕ) (e : Effect) (x y : Bool) → y ≡ x
    → Told (settle s (cond x (done e True) (say True NotRegistered)) st) (NotRegistered when not y ∷ []) st
unregistered st s e true true q = record { why = mild st _ Done refl refl }
unregistered st s e true false q = absurd (false≢true q)
unregistered st s e false true q = absurd (true≢false q)
unregistered st s e false false q = record { why = mild st _ NotRegistered refl refl }

module _ {cap : ℕ} (room i s : ℕ) (st : State) (w : Regular cap st) where
  abbrev settled : Outcome → Result
  settled o = settle s o st

  -- reasons 4 and 5 come first
  begin : (b : Outcome) (ts : List Test) → (bad_group s ≡ false → Told (settled b) ts st)
      → Told (settled (cond (leb st.size i) (say Error CallerUnknown) (cond (bad_group s) (say Error GroupNameRange) b)))
      (CallerUnknown when off_roster i (published st) ∷ GroupNameRange when bad_group s ∷ ts) st
  begin b ts k =
      or-error st s (leb st.size i) _ CallerUnknown _ _ (roster-test st i) refl λ q. or-error st s (bad_group s) _ GroupNameRange _ _ refl refl k

  in_range : bad_group s ≡ false → s < group_names
  in_range h = leb-false group_names s (neither (eqb s 0) (leb group_names s) h).1

  -- one that asks for no more than a set on the roster and membership
  told-set : (set : ℕ) → set < 2 ^ node_limit → (k : Group → Outcome) → ((g : Group) → (settled (k g)).answer.reason ≡ Done)
      → Told (settled (cond (leb st.size i) (say Error CallerUnknown) (cond (bad_group s) (say Error GroupNameRange)
      (cond (beyond set st.size) (say Error NodeUnknown) (W.as_member i Error (find s st.groups) k))))) (tests_set s set i (published st)) st
  unfolding published
  told-set set small k h =
      begin _ _ λ q.
      or-error st s (beyond set st.size) _ NodeUnknown _ _ (stray-test st set small) refl λ x.
      by-member st s i Error (find s st.groups) k _ λ g f m. last st _ (h g)

told-within : {cap : ℕ} (room i : ℕ) (c : GroupCommand) (st : State) → Regular cap st → Fits (within c)
    → Told (group_step room i c st) (tests room (within c) i (published st)) st
unfolding group_step outcome inside published tests
told-within room i (register_name s n p) st w fits =
    begin room i s st w _ _ λ q.
    or-error st s (eqb n 0) _ NameZero _ _ refl refl λ x.
    or-error st s (leb st.size (host p)) _ NodeUnknown _ _ (roster-test st (host p)) refl λ y.
    by-member st s i False (find s st.groups) _ _ λ g f m.
    by st (λ o. settle s o st) (held (lookup n g.names)) _ NameTaken _ _ _ (name-test st w s g f n) (mild st _ NameTaken refl refl) λ z.
    by st (λ o. settle s o st) (holds_pid p g.names) _ PidTaken _ _ _ (pid-test st w s g f p) (mild st _ PidTaken refl refl) λ u.
    by st (λ o. settle s o st) (W.full g.names) _ NamespaceFull _ _ _ (full-test st w s g f) (refuses st s NamespaceFull False refl) λ v.
    last st _ refl
told-within room i (re_register_name s n p) st w fits =
    begin room i s st w _ _ λ q.
    or-error st s (eqb n 0) _ NameZero _ _ refl refl λ x.
    or-error st s (leb st.size (host p)) _ NodeUnknown _ _ (roster-test st (host p)) refl λ y.
    by-member st s i False (find s st.groups) _ _ λ g f m.
    by st (λ o. settle s o st) (holds_pid p g.names) _ PidTaken _ _ _ (pid-test st w s g f p) (mild st _ PidTaken refl refl) λ u.
    by st (λ o. settle s o st) (not (held (lookup n g.names)) && W.full g.names) _ NamespaceFull _ _ _
    (ap₂ (λ (a b : Bool). not a && b) (name-test st w s g f n) (full-test st w s g f)) (refuses st s NamespaceFull False refl) λ v.
    last st _ refl
told-within room i (unregister_name s n) st w fits =
    begin room i s st w _ _ λ q.
    or-error st s (eqb n 0) _ NameZero _ _ refl refl λ x.
    by-member st s i False (find s st.groups) _ _ λ g f m.
    unregistered st s _ (held (lookup n g.names)) _ (name-test st w s g f n)
told-within room i (whereis_name s n) st w fits =
    begin room i s st w _ _ λ q.
    or-error st s (eqb n 0) _ NameZero _ _ refl refl λ x.
    by-member st s i Undefined (find s st.groups) (W.whereis_in n) _ λ g f m.
    looked_up st s n g f
told-within room i (registered_names s) st w fits =
    begin room i s st w _ _ λ q.
    by-member st s i (Listed 0) (find s st.groups) (λ g. W.listed room (W.name_words s g.names)) _ λ g f m.
    or-error st s (ltb room (length (W.name_words s g.names))) _ RunShort _ _ (list-test st w s g f room i (in_range room i s st w q) m) refl λ x.
    last st _ refl
told-within room i (add_nodes s set) st w fits = told-set room i s st w set fits.1 _ (λ g. refl)
told-within room i (new_s_group s set) st w fits =
    begin room i s st w _ _ λ q.
    or-error st s (beyond set st.size) _ NodeUnknown _ _ (stray-test st set fits.1) refl λ x.
    by st (λ o. settle s o st) (not (has set i)) _ CallerOutside _ _ _ refl (mild st _ CallerOutside refl refl) λ y.
    or-error st s (held (find s st.groups)) _ GroupTaken _ _ (taken (find s st.groups)) refl λ z.
    or-error st s (leb group_limit (length st.groups)) _ GroupsFull _ _
    (ap (leb group_limit) (count-groups _ st.size st.groups w.rising w.each)) refl λ u.
    last st _ refl
  where
    taken : (o : Option Group) → held (on_some seen o) ≡ held o
    taken none = refl
    taken (some g) = refl

-- ---- lookups

-- there is no s_group zero
find-zero : (b : ℕ) (gs : List Group) → Rising b gs → find 0 gs ≡ none
unfolding find
find-zero b [] r = refl
find-zero b (g ∷ gs) r = rw (ne_eqb g.name 0 (λ e. omega (arith, r.0))) (find-zero g.name gs r.1)

-- the last four tests of a lookup by j
abbrev look_tests : Bool → ℕ → ℕ → Option SGroup → List Test
look_tests zero j n o =
    GroupUnknown when (not zero && not (held o)) ∷ NotMember when (not zero && not (member j o))
    ∷ found_tests (λ i. member i o) (of_some none (λ g. g.namespace n) o)

-- the reason of a lookup is the first of these that holds, and 000 has a rule for it
record Why (l : W.Looked) (ts : List Test) : Type 0 where
  reason_is : l.reason ≡ first ts
  has_rule : ruled (first ts) ≡ true

look-why : (j n : ℕ) (o : Option Group) → Why (look_in j n o) (look_tests false j n (on_some seen o))
look-why j n none = record { reason_is = refl; has_rule = refl }
look-why j n (some g) = inner (has g.members j)
  where
    inner : (x : Bool) → Why (cond x (W.looked g.members (lookup n g.names)) (W.nothing_found NotMember))
        (GroupUnknown when false ∷ NotMember when not x ∷ found_tests (has g.members) (lookup n g.names))
    inner true = let why = found_why g.members (lookup n g.names) in record { reason_is = why.0; has_rule = why.1 }
    inner false = record { reason_is = refl; has_rule = refl }

ask-why : {cap : ℕ} (st : State) → Regular cap st → (j s n : ℕ) → Why (ask j s n st) (look_tests (eqb s 0) j n (groups_seen st.groups s))
ask-why st w j s n = go (eqb s 0) refl
  where
    go : (x : Bool) → eqb s 0 ≡ x → Why (cond x (W.nothing_found NotRegistered) (look_in j n (find s st.groups)))
        (look_tests x j n (groups_seen st.groups s))
    go true e =
        let none-there : find s st.groups ≡ none = ap (λ (t : ℕ). find t st.groups) (eqb-true s 0 e) ∙ find-zero 0 st.groups w.rising in
        subst (λ (o : Option Group). Why (W.nothing_found NotRegistered) (look_tests true j n (on_some seen o))) (sym none-there)
        (record { reason_is = refl; has_rule = refl })
    go false e = look-why j n (find s st.groups)

-- ---- all fifteen

module _ {cap : ℕ} (st : State) (w : Regular cap st) (i : ℕ) where
  -- reason 4 comes first
  from-roster : (b : Result) (ts : List Test) → Told b ts st
      → Told (cond (leb st.size i) (error CallerUnknown st) b) (CallerUnknown when off_roster i (published st) ∷ ts) st
  from-roster b ts k = or-wrong st (leb st.size i) _ CallerUnknown b ts (roster-test st i) refl (λ q. k)

  -- a lookup by j, whatever state it leaves
  told_at : (j s n : ℕ) (u : State)
      → Told (cond (leb st.size i) (error CallerUnknown st) (W.asking j s n st (tell (ask j s n st) u))) (tests_at j s n i (published st) ++ tests_host s n (published st)) st
  unfolding published
  told_at j s n u =
      from-roster _ _
      (or-wrong st (leb group_names s) _ GroupNameRange _ _ refl refl λ x.
      or-wrong st (eqb n 0) _ NameZero _ _ refl refl λ y.
      or-wrong st (leb st.size j) _ NodeUnknown _ _ (roster-test st j) refl λ z.
      record { why = mild st _ _ (ask-why st w j s n).reason_is (ask-why st w j s n).has_rule })

told-group : {cap : ℕ} (room i : ℕ) (c : GroupCommand) (st : State) → Regular cap st → Fits (within c) → Told (step room i (within c) st) (tests room (within c) i (published st)) st
told-group room i c st w fits =
    subst (λ (r : Result). Told r (tests room (within c) i (published st)) st) (sym (step-within room i c st)) (told-within room i c st w fits)

told-step : {cap : ℕ} (room i : ℕ) (c : Command) (st : State) → Regular cap st → Fits c → Told (step room i c st) (tests room c i (published st)) st
unfolding step rule published tests transition
told-step room i (RegisterName s n p) st w fits = told-group room i (register_name s n p) st w fits
told-step room i (ReRegisterName s n p) st w fits = told-group room i (re_register_name s n p) st w fits
told-step room i (UnregisterName s n) st w fits = told-group room i (unregister_name s n) st w fits
told-step room i (RegisteredNames s) st w fits = told-group room i (registered_names s) st w fits
told-step room i (WhereisName s n) st w fits = told-group room i (whereis_name s n) st w fits
told-step room i (NewSGroup s set) st w fits = told-group room i (new_s_group s set) st w fits
told-step room i (AddNodes s set) st w fits = told-group room i (add_nodes s set) st w fits
told-step room i (WhereisNameAt j s n) st w fits = told_at st w i j s n (W.connect i j st)
told-step room i (SendAt j s n) st w fits = told_at st w i j s n (W.send_on i (ask j s n st).found (W.connect i j st))
told-step room i (Send p) st w fits =
    from-roster st w i _ _ (or-wrong st (leb st.size (host p)) _ NodeUnknown _ _ (roster-test st (host p)) refl λ x. last st _ refl)
told-step room i (SendName s n) st w fits =
    from-roster st w i _ _
    (or-wrong st (bad_group s) _ GroupNameRange _ _ refl refl λ x.
    or-wrong st (eqb n 0) _ NameZero _ _ refl refl λ y.
    subst (λ (z : Bool). Told (tell (ask i s n st) (W.send_on i (ask i s n st).found st)) (look_tests z i n (groups_seen st.groups s)) st)
    (neither (eqb s 0) (leb group_names s) x).0
    (record { why = mild st _ _ (ask-why st w i s n).reason_is (ask-why st w i s n).has_rule }))
told-step room i (RemoveNodes s set) st w fits =
    from-roster st w i _ _
    (or-wrong st (bad_group s) _ GroupNameRange _ _ refl refl λ x.
    or-wrong st (beyond set st.size) _ NodeUnknown _ _ (stray-test st set fits.1) refl λ y.
    for-one st i (find s st.groups) _ λ g. refl)
told-step room i (DeleteSGroup s) st w fits =
    from-roster st w i _ _
    (or-wrong st (bad_group s) _ GroupNameRange _ _ refl refl λ x.
    for-one st i (find s st.groups) _ λ g. refl)
told-step room i OwnNodes st w fits = from-roster st w i _ _ (last st _ refl)
told-step room i OwnSGroups st w fits =
    from-roster st w i _ _
    (by st (λ o. read_only o st) (ltb room (length (own_list i st.groups))) _ RunShort _ _ _ (ap (λ (l : List ℕ). ltb room (length l)) (own_list-seen st w i))
    (record { reason_is = refl; refused = λ k. record { state = refl; said_is = refl } }) λ x. last st _ refl)

pub because : {cap : ℕ} (room i : ℕ) (c : Command) (st : State) → Regular cap st → Fits c
    → Because (step room i c st) (first (tests room c i (published st))) st
because room i c st w fits = (told-step room i c st w fits).why
