-- The published state of a regular state, and of a sound table, is well-formed; so sound tables and well-formed published states go together one
-- by one. Assumes nothing.
use Rattle.std.specs.Prelude.{◌≡◌, Bool, true, false, ◌&&◌, ◌||◌, cond, List, [], ◌∷◌, ℕ, ◌<◌, eqb, ltb, get_or}
use Rattle.std.proofs.Math.Path.{refl, sym, ap, subst}
use Rattle.std.proofs.Common.{ap₂, ◌∙◌, ⊎_elim, arith}
use Rattle.std.proofs.Math.Bool.{not, and_comm}
use Rattle.std.proofs.lemmas.Bool.{false≢true}
use Rattle.std.proofs.Math.Option.{Option, none, some, some-injective}
use borrow.Author.Tests.{eqb-true, eq-eqb, ne_eqb, lt-ltb}
use Rattle.nodes.specs.Sets.{has}
use Rattle.nodes.specs.Bools.{by_eq, and-follows}
use Rattle.nodes.proofs.SetLaws.{has-below}
use Rattle.entries.specs.Entries.{Entry, half_word, lookup}
use Rattle.entries.specs.NamespaceSound as Namespace
use Rattle.entries.specs.NamespaceSound.{Ascending, Distinct}
use Rattle.entries.specs.EntryLaws.{holds_pid-lookup}
use Rattle.semantics.specs.Sizes.{names_per_group}
use Rattle.semantics.specs.State.{Group, State, find}
use Rattle.semantics.specs.Table.{state_of}
use Rattle.semantics.specs.Soundness.{Sound}
use Rattle.semantics.specs.Regular.{Every, Rising, Met, Regular, loose}
use Rattle.semantics.specs.Members.{in-word}
use Rattle.semantics.specs.Groups.{of-found, found_name}
use Rattle.semantics.specs.NamesKept.{host-found}
use Rattle.semantics.specs.Changed.{regular-found, small-name}
use Rattle.semantics.proofs.Agree.{test-regular, sound-iff}
use Rattle.published.specs.Published.{SGroup, Namespace, Node, IsSGroupNode}
use Rattle.published.proofs.SeenState.{seen, names_seen, published, seen_table, seen-sound}
use Rattle.published.specs.WellFormed.{connected, free, FairNamespace, FairGroup, WellFormed}
use Rattle.published.proofs.SomeBelow.{any-has}
use Rattle.published.proofs.GroupsSeen.{on_some, roster-seen, groups_seen, node_seen, nothing_there, those-seen, count-groups}
use Rattle.published.proofs.NamesSeen.{count-names}
use Rattle.published.proofs.ConnectRule.{loose-is, connected-seen}
use Rattle.published.proofs.Determined.{table-determined}
use Rattle.published.proofs.Built.{table_of, table_sound, table-seen}

-- ---- namespaces

-- what is found is in range
found_range : (lo n p : ℕ) (es : List Entry) → Ascending lo es → lookup n es ≡ some p → (lo < n) × (n < half_word) × (p < half_word)
unfolding lookup Ascending
found_range lo n p [] s f = nothing_there f
found_range lo n p (e ∷ es) s f = ⊎_elim
    (λ (t : e.name ≡ n).
    let q : some e.pid ≡ some p = rw (eq-eqb e.name n t) at f in
    let r : e.pid ≡ p = cc in
    (omega (arith, s.0), omega (arith, s.1), omega (arith, s.2)))
    (λ (t : e.name ≡ n → ⊥).
    let q = found_range e.name n p es s.3 (rw (ne_eqb e.name n t) at f) in
    (omega (arith, s.0, q.0), q.1, q.2))
    (by_eq e.name n)

-- a pid stands under one name
one_name : (n m p : ℕ) (es : List Entry) → Distinct es → lookup n es ≡ some p → lookup m es ≡ some p → n ≡ m
unfolding lookup Distinct
one_name n m p [] d f g = nothing_there f
one_name n m p (e ∷ es) d f g = go (eqb e.name n) refl (eqb e.name m) refl f g (one_name n m p es d.1)
  where
    twice : (k : ℕ) → lookup k es ≡ some p → e.pid ≡ p → ⊥
    twice k q z = false≢true (sym d.0 ∙ holds_pid-lookup k e.pid es (q ∙ ap some (sym z)))

    go : (x : Bool) → eqb e.name n ≡ x → (y : Bool) → eqb e.name m ≡ y → cond x (some e.pid) (lookup n es) ≡ some p
        → cond y (some e.pid) (lookup m es) ≡ some p
        → (lookup n es ≡ some p → lookup m es ≡ some p → n ≡ m) → n ≡ m
    go true a true b q r ih = sym (eqb-true e.name n a) ∙ eqb-true e.name m b
    go true a false b q r ih = absurd (twice m r (some-injective e.pid p q))
    go false a true b q r ih = absurd (twice n q (some-injective e.pid p r))
    go false a false b q r ih = ih q r

fair-names : (size : ℕ) (es : List Entry) → Namespace.Sound names_per_group size es → FairNamespace size (λ n. lookup n es)
fair-names size es s =
    record {
      in_range = λ n p f. let r = found_range 0 n p es s.names f in (r.0, r.1, r.2, host-found size n p es s.hosts f);
      few = omega (arith, count-names es s.names, s.room);
      pids = λ n m p. one_name n m p es s.pids;
    }

-- ---- states

above_zero : (b : ℕ) (gs : List Group) → Rising b gs → Every (λ g. 0 < g.name) gs
above_zero b [] r = tt
above_zero b (g ∷ gs) r = (omega (arith, r.0), above_zero g.name gs r.1)

module _ (st : State) (w : Regular names_per_group st) where
  linked : (i j : ℕ) → connected i j (published st) ≡ has (get_or st.links i 0) j
  unfolding published
  linked i j = connected-seen st w i j

  fair-group : (s : ℕ) (g : Group) → find s st.groups ≡ some g → FairGroup (published st) st.size s (seen g)
  fair-group s g f =
      let r = regular-found w s g f in
      let positive : 0 < g.name = of-found s st.groups g f (λ h. 0 < h.name) (above_zero 0 st.groups w.rising) in
      record {
        in_range = (omega (arith, positive, found_name s st.groups g f), small-name w s g f);
        someone = any-has g.members (in-word w.size_high r.on_roster) ∙ ap not (ne_eqb g.members 0 r.some_member);
        on_roster = λ i h. has-below g.members st.size i r.on_roster h;
        met = λ i j a b n. linked i j ∙ of-found s st.groups g f (Met st.links) w.met i j a b n;
        names = fair-names st.size g.names r.names_sound;
      }

  normal-is : (i : ℕ) → free false (published st) i ≡ loose st i
  unfolding published
  normal-is i =
      ap (λ (x : Bool). x && not (IsSGroupNode i (groups_seen st.groups)))
      (those-seen (λ nd. not nd.hidden) st.size st.hidden st.links (groups_seen st.groups) i)
      ∙ sym (loose-is st w i)

  hidden-is : (i : ℕ) → (published st).fhs i ≡ free true (published st) i
  unfolding published
  hidden-is i = ap (λ (x : Bool). x && not (IsSGroupNode i (groups_seen st.groups))) (sym
      (those-seen (λ nd. nd.hidden) st.size st.hidden st.links (groups_seen st.groups) i
      ∙ and_comm (ltb i st.size) (has st.hidden i)
      ∙ and-follows (has st.hidden i) (ltb i st.size) (λ h. lt-ltb i st.size (has-below st.hidden st.size i w.hidden_in h))))

  pub fair : WellFormed (published st)
  unfolding published
  fair =
      record {
        size = st.size;
        size_range = (w.size_low, w.size_high);
        roster = roster-seen st.size st.hidden st.links (groups_seen st.groups);
        few_groups = omega (arith, count-groups names_per_group st.size st.groups w.rising w.each, w.groups_few);
        groups = λ s g e. of-group s g (find s st.groups) refl e;
        gr_names_are = λ i nd e. of_node i nd (ltb i st.size) e;
        both_ways = λ i j. linked i j ∙ w.wires.both_ways i j ∙ sym (linked j i);
        no_self = λ i. linked i i ∙ w.wires.no_self i;
        free_hidden = hidden-is;
        free_normal = λ i j.
            w.wires.frees i j ∙ sym (ap₂ (λ (x y : Bool). x && y) (normal-is i) (ap₂ (λ (x y : Bool). x && (eqb i j || y)) (normal-is j) (linked i j)));
        disjoint = λ i j h. ap has (w.wires.classes i j h);
      }
    where
      of-group : (s : ℕ) (g : SGroup) (o : Option Group) → find s st.groups ≡ o → on_some seen o ≡ some g → FairGroup (published st) st.size s g
      of-group s g none f e = nothing_there e
      of-group s g (some h) f e = subst (FairGroup (published st) st.size s) (some-injective (seen h) g e) (fair-group s h f)

      of_node : (i : ℕ) (nd : Node) (x : Bool) → cond x (some (node_seen st.hidden st.links (groups_seen st.groups) i)) none ≡ some nd
          → nd.gr_names ≡ names_seen i (groups_seen st.groups)
      of_node i nd true e = ap (λ (x : Node). x.gr_names) (sym (some-injective _ nd e))
      of_node i nd false e = nothing_there e

pub table-fair : (t : List ℕ) → Sound names_per_group t → WellFormed (seen_table t)
table-fair t h =
    subst WellFormed (sym (seen-sound t h)) (fair (state_of names_per_group t) (test-regular names_per_group t ((sound-iff names_per_group t).1 h)).0)

-- a sound table is the one of its published state
pub table-back : (t : List ℕ) (h : Sound names_per_group t) → table_of (seen_table t) (table-fair t h) ≡ t
table-back t h = table-determined (table_of (seen_table t) (table-fair t h)) t (table_sound (seen_table t) (table-fair t h)) h
    (table-seen (seen_table t) (table-fair t h))
