-- The commands that change a namespace write its s_group's own words and the count in its contents word, and nothing else. Assumes nothing.
use Rattle.std.specs.Prelude.{◌≡◌, refl, ◌≢◌, Bool, true, false, not, ◌&&◌, cond, List, ◌∷◌, ◌++◌, ℕ, ◌+◌, ◌%◌, ◌≤◌, ◌<◌, eqb, leb, length, get_or}
use Rattle.std.proofs.Common.{sym, ap, ◌∙◌, subst, ⊎_elim, arith, length-append}
use Rattle.std.proofs.Math.Option.{Option, none, some}
use Rattle.nodes.specs.Sets.{has}
use Rattle.nodes.specs.Bools.{by_eq}
use Rattle.entries.specs.Entries.{Entry, lookup, holds_pid, host}
use Rattle.semantics.specs.Sizes.{group_names, names_per_group, contents_at, table_words}
use Rattle.semantics.specs.State.{Group, State, find, with_groups}
use Rattle.commands.specs.declared.Command.{Command}
use Rattle.semantics.specs.GroupCommands.{GroupCommand, register_name, re_register_name, unregister_name, whereis_name, registered_names, add_nodes, new_s_group, within}
use Rattle.semantics.specs.Ranges.{held, bad_group}
use Rattle.semantics.specs.Steps.{target, Effect, keep, hold, Outcome, as_member, full, inside, outcome, apply, group_step, Result, step}
use Rattle.semantics.specs.Table.{layout, state_of}
use Rattle.semantics.specs.Test.{sound}
use Rattle.semantics.specs.Call.{refused, written, call}
use Rattle.answers.specs.declared.Value.{Value}
use Rattle.answers.specs.declared.Value.TheVariants.{False}
use Rattle.answers.specs.declared.Reason.TheVariants.{TableLength, Unsound}
use Rattle.semantics.specs.Soundness.{count_of, name_of}
use Rattle.semantics.specs.Regular.{Rising, Regular}
use Rattle.semantics.specs.Groups.{Found, found, found_name}
use Rattle.semantics.specs.Within.{step-within}
use Rattle.semantics.specs.Places.{group_at, group-between, every-iff}
use Rattle.semantics.specs.Bodies.{own_at}
use Rattle.semantics.proofs.RoundTrip.{sized}
use Rattle.semantics.specs.WordByWord.{reads}
use Rattle.semantics.proofs.WordsMeaning.{Means, in-state, in_words, regular-means}
use Rattle.semantics.proofs.Agree.{test-regular, test-laid}
use Rattle.semantics.proofs.Frame.{renamed, frame-other, frame-name}

-- the command changes a namespace
abbrev pub Naming : GroupCommand → Type 0
Naming (register_name s n p) = Unit {0}
Naming (re_register_name s n p) = Unit {0}
Naming (unregister_name s n) = Unit {0}
Naming (whereis_name s n) = ⊥
Naming (registered_names s) = ⊥
Naming (add_nodes s set) = ⊥
Naming (new_s_group s set) = ⊥

-- ---- what becomes of the s_group: nothing, or other names

-- nothing becomes of the s_group o, or it keeps its members and gets the names ns
data Renames (o : Option Group) : Effect → Type 0 where
  kept : Renames o keep
  changed : (g : Group) (ns : List Entry) → o ≡ some g → Renames o (hold g.members ns)

either : {o : Option Group} (x : Bool) (a b : Outcome) → Renames o a.effect → Renames o b.effect → Renames o (cond x a b).effect
either true a b p q = p
either false a b p q = q

for_member : (o : Option Group) (i : ℕ) (v : Value) (k : Group → Outcome) → ((g : Group) → o ≡ some g → Renames o (k g).effect) → Renames o (as_member i v o k).effect
for_member none i v k h = kept
for_member (some g) i v k h = either (has g.members i) _ _ (h g refl) kept

inside-renames : (room N G i : ℕ) (c : GroupCommand) → Naming c → (o : Option Group) → Renames o (inside room N G i c o).effect
unfolding inside
inside-renames room N G i (register_name s n p) u o =
    either (eqb n 0) _ _ kept (either (leb N (host p)) _ _ kept (for_member o i False _ (λ g e.
    either (held (lookup n g.names)) _ _ kept (either (holds_pid p g.names) _ _ kept (either (full g.names) _ _ kept (changed g _ e))))))
inside-renames room N G i (re_register_name s n p) u o =
    either (eqb n 0) _ _ kept (either (leb N (host p)) _ _ kept (for_member o i False _ (λ g e.
    either (holds_pid p g.names) _ _ kept (either (not (held (lookup n g.names)) && full g.names) _ _ kept (changed g _ e)))))
inside-renames room N G i (unregister_name s n) u o =
    either (eqb n 0) _ _ kept (for_member o i False _ (λ g e. either (held (lookup n g.names)) _ _ (changed g _ e) kept))
inside-renames room N G i (whereis_name s n) u o = absurd u
inside-renames room N G i (registered_names s) u o = absurd u
inside-renames room N G i (add_nodes s set) u o = absurd u
inside-renames room N G i (new_s_group s set) u o = absurd u

outcome-renames : (room N G i : ℕ) (c : GroupCommand) → Naming c → (o : Option Group) → Renames o (outcome room N G i c o).effect
unfolding outcome
outcome-renames room N G i c u o = either (leb N i) _ _ kept (either (bad_group (target c)) _ _ kept (inside-renames room N G i c u o))

-- ---- the state after it

-- a state after st: the same, or with other names for the s_group s
data After (s : ℕ) (st : State) : State → Type 0 where
  same : After s st st
  other_names : (pre : List Group) (g : Group) (post : List Group) (ns : List Entry) → st.groups ≡ pre ++ g ∷ post → g.name ≡ s → After s st (renamed pre g post ns st)

apply-renames : (s : ℕ) (st : State) (e : Effect) → Rising 0 st.groups → Renames (find s st.groups) e → After s st (apply s e st)
unfolding apply
apply-renames s st e r kept = same
apply-renames s st e r (changed g ns f) =
    let w : Found s st.groups g = found s 0 st.groups g r f in
    subst (λ (gs : List Group). After s st (with_groups gs st)) (sym (w.putting g.members ns))
    (other_names w.before g w.after ns w.is (found_name s st.groups g f))

step-renames : (room i : ℕ) (c : GroupCommand) → Naming c → (st : State) → Rising 0 st.groups → After (target c) st (step room i (within c) st).next
unfolding group_step
step-renames room i c u st r =
    subst (λ (x : Result). After (target c) st x.next) (sym (step-within room i c st))
    (apply-renames (target c) st _ r (outcome-renames room st.size (length st.groups) i c u (find (target c) st.groups)))

-- ---- the table after it

-- what holds of the table before a call and of the words of the step's state holds of the table that the call leaves
called : (room i : ℕ) (c : Command) (t : List ℕ) (P : List ℕ → Type 0) → P t
    → (sound names_per_group t ≡ true → P (layout names_per_group (step room i c (state_of names_per_group t)).next)) → P (call room i c t).table
unfolding call
called room i c t P a b = go (eqb (length t) (table_words names_per_group)) (sound names_per_group t) refl
  where
    go : (x y : Bool) → sound names_per_group t ≡ y
        → P (cond (not x) (refused TableLength t) (cond (not y) (refused Unsound t) (written (step room i c (state_of names_per_group t))))).table
    go false y e = a
    go true false e = a
    go true true e = b e

-- word k is outside the own words of the s_group at place g, and not its contents word
pub record Outside (cap k g : ℕ) : Type 0 where
  pub no_contents : k ≢ contents_at + g
  pub no_own : own_at cap g ≤ k → k < own_at cap g + cap → ⊥

module _ (cap s : ℕ) (st : State) (r : Regular cap st) where
  place : (pre : List Group) (g : Group) (post : List Group) → st.groups ≡ pre ++ g ∷ post → length pre < length st.groups
  place pre g post is = omega (arith, ap length is, length-append pre (g ∷ post))

  after-outside : {next : State} → After s st next → (k : ℕ) → ((g : ℕ) → g < length st.groups → (group_at st.groups g).name ≡ s → Outside cap k g)
      → get_or (layout cap next) k 0 ≡ get_or (layout cap st) k 0
  after-outside same k o = refl
  after-outside (other_names pre g post ns is e) k o =
      let w : Outside cap k (length pre) =
      o (length pre) (place pre g post is) (ap (λ (x : Group). x.name) (group-between st.groups pre g post (length pre) is refl) ∙ e) in
      frame-other cap st (sized r) pre post g is ns k w.no_contents w.no_own

  after-names : {next : State} → After s st next → (k : ℕ) → k < length st.groups → name_of (layout cap next) k ≡ name_of (layout cap st) k
  after-names same k l = refl
  after-names (other_names pre g post ns is e) k l = ⊎_elim here elsewhere (by_eq k (length pre))
    where
      here : k ≡ length pre → name_of (layout cap (renamed pre g post ns st)) k ≡ name_of (layout cap st) k
      here q =
          let small : g.name < group_names =
          subst (λ (x : Group). x.name < group_names) (group-between st.groups pre g post (length pre) is refl)
          ((every-iff _ st.groups).0 r.each (length pre) (place pre g post is)).small in
          subst (λ (j : ℕ). name_of (layout cap (renamed pre g post ns st)) j ≡ name_of (layout cap st) j) (sym q) (frame-name cap st (sized r) pre post g is ns small)

      elsewhere : (k ≡ length pre → ⊥) → name_of (layout cap (renamed pre g post ns st)) k ≡ name_of (layout cap st) k
      elsewhere d =
          ap (λ (w : ℕ). w % group_names) (frame-other cap st (sized r) pre post g is ns (contents_at + k) (λ q. d (omega arith)) (λ a b. omega (arith, r.groups_few)))

module _ (room i : ℕ) (c : GroupCommand) (u : Naming c) (t : List ℕ) where
  module _ (h : sound names_per_group t ≡ true) where
    regular : Regular names_per_group (state_of names_per_group t)
    regular = (test-regular names_per_group t h).0

    is-table : layout names_per_group (state_of names_per_group t) ≡ t
    is-table = (test-regular names_per_group t h).1

    means : Means names_per_group (state_of names_per_group t) t
    means = regular-means regular (reads (test-laid names_per_group t h))

    after : After (target c) (state_of names_per_group t) (step room i (within c) (state_of names_per_group t)).next
    after = step-renames room i c u (state_of names_per_group t) regular.rising

  -- a word outside those of the s_group that it names stays
  pub naming-outside : (k : ℕ) → ((g : ℕ) → g < count_of t → name_of t g ≡ target c → Outside names_per_group k g)
      → get_or (call room i (within c) t).table k 0 ≡ get_or t k 0
  naming-outside k o = called room i (within c) t (λ x. get_or x k 0 ≡ get_or t k 0) refl (λ h.
      after-outside names_per_group (target c) (state_of names_per_group t) (regular h) (after h) k
      (λ g l e. let n : g < count_of t = in_words (means h) g l in o g n ((means h).name g n ∙ e))
      ∙ ap (λ (x : List ℕ). get_or x k 0) (is-table h))

  -- and so does every s_group's name: in a contents word only the count changes
  pub naming-names : (g : ℕ) → g < count_of t → name_of (call room i (within c) t).table g ≡ name_of t g
  naming-names g l = called room i (within c) t (λ x. name_of x g ≡ name_of t g) refl (λ h.
      after-names names_per_group (target c) (state_of names_per_group t) (regular h) (after h) g (in-state (means h) g l)
      ∙ ap (λ (x : List ℕ). name_of x g) (is-table h))
