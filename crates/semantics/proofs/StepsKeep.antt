-- Every command keeps a regular state regular. Assumes nothing.
use Rattle.std.specs.Prelude.{◌≡◌, refl, ◌≢◌, Bool, true, false, not, ◌&&◌, cond, ℕ, ◌^◌, ◌<◌, eqb, leb, ltb, length}
use Rattle.std.proofs.Common.{sym, ap, ◌∙◌, arith, leb-false}
use Rattle.std.proofs.lemmas.Bool.{false≢true, eqb-false, not-false}
use Rattle.std.proofs.Math.Option.{Option, none, some}
use Rattle.nodes.specs.Sets.{has, beyond}
use Rattle.nodes.proofs.SetLaws.{has-none}
use Rattle.entries.specs.Entries.{host, lookup, holds_pid}
use Rattle.entries.specs.NamespaceSound as Namespace
use Rattle.entries.specs.NamespaceKept.{sound-remove}
use Rattle.semantics.specs.Sizes.{group_limit, names_per_group, group_names}
use Rattle.semantics.specs.State.{Group, State, find}
use Rattle.commands.specs.declared.Command.{Command}
use Rattle.commands.specs.declared.Command.TheVariants.{RegisterName, ReRegisterName, UnregisterName, RegisteredNames, WhereisName, WhereisNameAt, Send, SendName, SendAt, NewSGroup, AddNodes, RemoveNodes, DeleteSGroup, OwnNodes, OwnSGroups}
use Rattle.semantics.specs.GroupCommands.{GroupCommand, register_name, re_register_name, unregister_name, whereis_name, registered_names, add_nodes, new_s_group, within}
use Rattle.semantics.specs.Ranges.{held, bad_group}
use Rattle.semantics.specs.Steps.{Outcome, Result, target, as_member, full, name_words, inside, outcome, apply, group_step, ask, send_on, for_member, rule, step}
use Rattle.answers.specs.declared.Value.{Value}
use Rattle.semantics.specs.Regular.{Regular}
use Rattle.semantics.specs.Fits.{Fits}
use Rattle.semantics.specs.Truth.{neither}
use Rattle.semantics.specs.NamesKept.{not-held, sound-register, sound-re-register}
use Rattle.semantics.specs.Changed.{regular-found, regular-hold, regular-join, regular-create}
use Rattle.semantics.proofs.Lookups.{host-asked}
use Rattle.semantics.specs.Connected.{regular-connect, size-connect}
use Rattle.semantics.proofs.Freed.{regular-delete, regular-left_in}

-- the state that follows on a is regular
record Kept {A : Type 0} (next : A → State) (a : A) : Type 0 where
  regular : Regular names_per_group (next a)

by-case : {A : Type 0} {next : A → State} (x : Bool) {a b : A} → (x ≡ true → Kept next a) → (x ≡ false → Kept next b) → Kept next (cond x a b)
by-case true f g = f refl
by-case false f g = g refl

positive : {n : ℕ} → eqb n 0 ≡ false → 0 < n
positive {n} h = let k : n ≢ 0 = eqb-false n 0 h in omega arith

-- ---- the seven that name one s_group

-- the state after an outcome for the s_group s
abbrev after : ℕ → State → Outcome → State
after s st o = apply s o.effect st

module _ {st : State} (w : Regular names_per_group st) (s i : ℕ) where
  by-member : (v : Value) (found : Option Group) (k : Group → Outcome) → ((g : Group) → found ≡ some g → Kept (after s st) (k g))
      → Kept (after s st) (as_member i v found k)
  unfolding apply
  by-member v none k h = record { regular = w }
  by-member v (some g) k h = by-case (has g.members i) (λ e. h g refl) (λ e. record { regular = w })

  names_sound : (g : Group) → find s st.groups ≡ some g → Namespace.Sound names_per_group st.size g.names
  names_sound g f = (regular-found w s g f).names_sound

-- a set with a node is not empty
inhabited : (set i : ℕ) → not (has set i) ≡ false → set ≢ 0
inhabited set i h e = false≢true (sym (has-none i) ∙ ap (λ (m : ℕ). has m i) (sym e) ∙ not-false (has set i) h)

kept-inside : (room i : ℕ) (c : GroupCommand) {st : State} → Regular names_per_group st → Fits (within c) → bad_group (target c) ≡ false
    → Kept (after (target c) st) (inside room st.size (length st.groups) i c (find (target c) st.groups))
unfolding inside apply
kept-inside room i (register_name s n p) {st} w b ok =
    by-case (eqb n 0) (λ x. record { regular = w }) λ x.
    by-case (leb st.size (host p)) (λ y. record { regular = w }) λ y.
    by-member w s i _ (find s st.groups) _ λ g f.
    by-case (held (lookup n g.names)) (λ z. record { regular = w }) λ z.
    by-case (holds_pid p g.names) (λ u. record { regular = w }) λ u.
    by-case (full g.names) (λ v. record { regular = w }) λ v.
    record {
      regular = regular-hold w s g f _
          (sound-register names_per_group st.size n p g.names (names_sound w s i g f) (positive x) b.1 b.2 (leb-false st.size (host p) y) u z v);
    }
kept-inside room i (re_register_name s n p) {st} w b ok =
    by-case (eqb n 0) (λ x. record { regular = w }) λ x.
    by-case (leb st.size (host p)) (λ y. record { regular = w }) λ y.
    by-member w s i _ (find s st.groups) _ λ g f.
    by-case (holds_pid p g.names) (λ u. record { regular = w }) λ u.
    by-case (not (held (lookup n g.names)) && full g.names) (λ v. record { regular = w }) λ v.
    record {
      regular = regular-hold w s g f _
          (sound-re-register names_per_group st.size n p g.names (names_sound w s i g f) (positive x) b.1 b.2 (leb-false st.size (host p) y) u v);
    }
kept-inside room i (unregister_name s n) {st} w b ok =
    by-case (eqb n 0) (λ x. record { regular = w }) λ x.
    by-member w s i _ (find s st.groups) _ λ g f.
    by-case (held (lookup n g.names))
    (λ z. record { regular = regular-hold w s g f _ (sound-remove names_per_group st.size n g.names (names_sound w s i g f)) })
    (λ z. record { regular = w })
kept-inside room i (whereis_name s n) {st} w b ok =
    by-case (eqb n 0) (λ x. record { regular = w }) λ x.
    by-member w s i _ (find s st.groups) _ λ g f. record { regular = w }
kept-inside room i (registered_names s) {st} w b ok =
    by-member w s i _ (find s st.groups) _ λ g f.
    by-case (ltb room (length (name_words s g.names))) (λ x. record { regular = w }) (λ x. record { regular = w })
kept-inside room i (add_nodes s set) {st} w b ok =
    by-case (beyond set st.size) (λ x. record { regular = w }) λ x.
    by-member w s i _ (find s st.groups) _ λ g f. record { regular = regular-join w s g f set (leb-false (2 ^ st.size) set x) }
kept-inside room i (new_s_group s set) {st} w b ok =
    by-case (beyond set st.size) (λ x. record { regular = w }) λ x.
    by-case (not (has set i)) (λ y. record { regular = w }) λ y.
    by-case (held (find s st.groups)) (λ z. record { regular = w }) λ z.
    by-case (leb group_limit (length st.groups)) (λ u. record { regular = w }) λ u.
    let named = neither (eqb s 0) (leb _ s) ok in
    let low : s < group_names = omega (arith, leb-false _ s named.1) in
    record {
      regular = regular-create w s (not-held (find s st.groups) z) (positive named.0) low
          (leb-false group_limit (length st.groups) u) set (leb-false (2 ^ st.size) set x) (inhabited set i y);
    }

pub keeps-within : (room i : ℕ) (c : GroupCommand) (st : State) → Regular names_per_group st → Fits (within c) → Regular names_per_group (group_step room i c st).next
unfolding group_step outcome apply
keeps-within room i c st w b = whole.regular
  where
    whole : Kept (after (target c) st) (outcome room st.size (length st.groups) i c (find (target c) st.groups))
    whole =
        by-case (leb st.size i) (λ x. record { regular = w }) λ x.
        by-case (bad_group (target c)) (λ y. record { regular = w }) λ y. kept-inside room i c w b y

-- ---- all fifteen

abbrev next_of : Result → State
next_of r = r.next

module _ {st : State} (w : Regular names_per_group st) where
  sent : (i : ℕ) (found : Option ℕ) → i < st.size → ((p : ℕ) → found ≡ some p → host p < st.size) → Regular names_per_group (send_on i found st)
  sent i none h k = w
  sent i (some p) h k = regular-connect w i (host p) h (k p refl)

  for-one : (i : ℕ) (found : Option Group) (k : Group → Result) → ((g : Group) → found ≡ some g → Kept next_of (k g)) → Kept next_of (for_member i found st k)
  for-one i none k h = record { regular = w }
  for-one i (some g) k h = by-case (has g.members i) (λ e. h g refl) (λ e. record { regular = w })

kept_rule : (room i : ℕ) (c : Command) {st : State} → Regular names_per_group st → Fits c → i < st.size → Kept next_of (rule room i c st)
unfolding rule
kept_rule room i (RegisterName s n p) {st} w b h = record { regular = keeps-within room i (register_name s n p) st w b }
kept_rule room i (ReRegisterName s n p) {st} w b h = record { regular = keeps-within room i (re_register_name s n p) st w b }
kept_rule room i (UnregisterName s n) {st} w b h = record { regular = keeps-within room i (unregister_name s n) st w b }
kept_rule room i (RegisteredNames s) {st} w b h = record { regular = keeps-within room i (registered_names s) st w b }
kept_rule room i (WhereisName s n) {st} w b h = record { regular = keeps-within room i (whereis_name s n) st w b }
kept_rule room i (NewSGroup s set) {st} w b h = record { regular = keeps-within room i (new_s_group s set) st w b }
kept_rule room i (AddNodes s set) {st} w b h = record { regular = keeps-within room i (add_nodes s set) st w b }
kept_rule room i (WhereisNameAt j s n) {st} w b h =
    by-case (leb group_names s) (λ x. record { regular = w }) λ x.
    by-case (eqb n 0) (λ x. record { regular = w }) λ x.
    by-case (leb st.size j) (λ x. record { regular = w }) λ x.
    record { regular = regular-connect w i j h (leb-false st.size j x) }
kept_rule room i (SendAt j s n) {st} w b h =
    by-case (leb group_names s) (λ x. record { regular = w }) λ x.
    by-case (eqb n 0) (λ x. record { regular = w }) λ x.
    by-case (leb st.size j) (λ x. record { regular = w }) λ x.
    record {
      regular = sent (regular-connect w i j h (leb-false st.size j x)) i (ask j s n st).found (rw (size-connect i j st) h)
          (rw (size-connect i j st) (host-asked w j s n));
    }
kept_rule room i (Send p) {st} w b h =
    by-case (leb st.size (host p)) (λ x. record { regular = w }) λ x.
    record { regular = regular-connect w i (host p) h (leb-false st.size (host p) x) }
kept_rule room i (SendName s n) {st} w b h =
    by-case (bad_group s) (λ x. record { regular = w }) λ x.
    by-case (eqb n 0) (λ x. record { regular = w }) λ x.
    record { regular = sent w i (ask i s n st).found h (host-asked w i s n) }
kept_rule room i (RemoveNodes s set) {st} w b h =
    by-case (bad_group s) (λ x. record { regular = w }) λ x.
    by-case (beyond set st.size) (λ x. record { regular = w }) λ x.
    for-one w i (find s st.groups) _ λ g f. record { regular = regular-left_in w s g f set }
kept_rule room i (DeleteSGroup s) {st} w b h =
    by-case (bad_group s) (λ x. record { regular = w }) λ x.
    for-one w i (find s st.groups) _ λ g f. record { regular = regular-delete w s g f }
kept_rule room i OwnNodes w b h = record { regular = w }
kept_rule room i OwnSGroups {st} w b h = record { regular = w }

pub keeps : (room i : ℕ) (c : Command) (st : State) → Regular names_per_group st → Fits c → Regular names_per_group (step room i c st).next
unfolding step
keeps room i c st w b = whole.regular
  where
    whole : Kept next_of (step room i c st)
    whole = by-case (leb st.size i) (λ x. record { regular = w }) (λ x. kept_rule room i c w b (leb-false st.size i x))
