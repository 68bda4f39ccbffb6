-- Every well-formed published state is that of a sound table. Assumes nothing.
use Rattle.std.specs.Prelude.{◌≡◌, Bool, true, ◌&&◌, ◌||◌, cond, List, [], ◌∷◌, ℕ, suc, ◌≤◌, ◌<◌, eqb, ltb, get_or}
use Rattle.std.proofs.Math.Path.{refl, sym, ap, ap₂, fun_ext}
use Rattle.std.proofs.Common.{◌∙◌, zero-add, eqb-true, ltb-true}
use Rattle.std.proofs.Math.Bool.{false, not, false≢true, and-false, and-eq-true_iff}
use Rattle.std.proofs.Math.Option.{Option, none, some}
use native.Mathlib.Omega.{arith}
use Rattle.nodes.specs.Sets.{node_limit, has}
use Rattle.nodes.proofs.SetLaws.{has-none, has-ext}
use Rattle.entries.specs.Entries.{Entry, half_word, lookup, holds_pid}
use Rattle.entries.specs.NamespaceSound as Namespace
use Rattle.entries.specs.NamespaceSound.{Ascending, Distinct, Hosted}
use Rattle.semantics.specs.Sizes.{names_per_group, group_names}
use Rattle.semantics.specs.State.{Group, State, find, all_members}
use Rattle.semantics.specs.Ranges.{held}
use Rattle.semantics.specs.Table.{layout}
use Rattle.semantics.specs.Soundness.{Sound}
use Rattle.semantics.specs.Regular.{Every, Rising, RegularGroup, Met, Regular, loose}
use Rattle.semantics.specs.Truth.{or_cases, unless}
use Rattle.semantics.specs.FreeGroupsOfNodes.{has-free_nodes}
use Rattle.semantics.proofs.Agree.{regular-test, sound-iff}
use Rattle.published.specs.Published.{Set, of_some, SGroup, Namespace, Node, Published, those, IsSGroupNode}
use Rattle.published.proofs.SeenState.{seen, names_seen, published, set_word, chained, seen_table, layout-seen}
use Rattle.published.specs.WellFormed.{connected, free, FairNamespace, WellFormed}
use Rattle.published.proofs.SomeBelow.{any_case}
use Rattle.published.proofs.Concatenated.{has_word, word_lt, word-has}
use Rattle.published.proofs.GroupsSeen.{on_some, held-those, groups_seen, nodes_seen, members-seen}
use Rattle.published.proofs.AscendingList.{gather, gather-ind, length-gather, looked, length-each, at_each}

-- ---- the entries of a namespace

abbrev entry : ℕ → ℕ → Entry
entry n p = record { name = n; pid = p }

-- its names, ascending
entries_of : Namespace → List Entry
entries_of ns = gather entry ns half_word 0

module _ (size : ℕ) (ns : Namespace) (fair : FairNamespace size ns) where
  lookup-entries : (n : ℕ) → lookup n (entries_of ns) ≡ ns n
  unfolding lookup entries_of
  lookup-entries n =
      looked entry ns (λ e. e.name) (λ e. e.pid) lookup (λ s. refl) (λ s x xs. refl) (λ k a e. refl) half_word (λ s p e. (fair.in_range s p e).1) n
      ∙ same (ns n)
    where
      same : (o : Option ℕ) → on_some (λ p. p) o ≡ o
      same none = refl
      same (some p) = refl

  -- a list of names from k on, with pids of ns, that is in order
  record Good (k : ℕ) (es : List Entry) : Type 0 where
    ascends : (lo : ℕ) → lo < k → Ascending lo es
    from_one : Ascending 0 es
    hosted : Hosted size es
    distinct : Distinct es
    own : (p : ℕ) → holds_pid p es ≡ true → (n : ℕ) × (k ≤ n) × (ns n ≡ some p)

  good-nil : (k : ℕ) → Good k []
  unfolding Ascending Hosted Distinct holds_pid
  good-nil k = record { ascends = λ lo l. tt; from_one = tt; hosted = tt; distinct = tt; own = λ p h. absurd (false≢true h) }

  good-skip : (k : ℕ) (es : List Entry) → Good (suc k) es → Good k es
  good-skip k es g = record {
    ascends = λ lo l. g.ascends lo (omega arith);
    from_one = g.from_one;
    hosted = g.hosted;
    distinct = g.distinct;
    own = λ p h. let q = g.own p h in (q.0, omega (arith, q.1), q.2);
  }

  good_more : (k p : ℕ) (es : List Entry) → ns k ≡ some p → Good (suc k) es → Good k (entry k p ∷ es)
  unfolding Ascending Hosted Distinct holds_pid
  good_more k p es e g = record {
    ascends = λ lo l. (l, (fair.in_range k p e).1, (fair.in_range k p e).2, g.ascends k (omega arith));
    from_one = ((fair.in_range k p e).0, (fair.in_range k p e).1, (fair.in_range k p e).2, g.ascends k (omega arith));
    hosted = ((fair.in_range k p e).3, g.hosted);
    distinct = (unless (holds_pid p es) (λ h. let q = g.own p h in omega (arith, q.1, fair.pids k q.0 p e q.2)), g.distinct);
    own = λ r h. or_cases (eqb p r) (holds_pid r es) h (λ x. (k, omega arith, e ∙ ap some (eqb-true p r x)))
        (λ x. let q = g.own r x in (q.0, omega (arith, q.1), q.2));
  }

  sound_entries : Namespace.Sound names_per_group size (entries_of ns)
  unfolding entries_of
  sound_entries =
      let all : Good 0 (gather entry ns half_word 0) =
      gather-ind entry ns Good half_word (good-nil half_word) (λ k es q. good-skip k es) good_more half_word 0 (zero-add half_word) in
      record {
        room = omega (arith, length-gather entry ns half_word, fair.few);
        names = all.from_one;
        pids = all.distinct;
        hosts = all.hosted;
      }

-- ---- the state

-- the s_group of a name
make : ℕ → ℕ → SGroup → Group
make size s g = record { name = s; members = set_word size g.nodes; names = entries_of g.namespace }

-- a set without members is zero
word_none : (n : ℕ) (a : Set) → ((i : ℕ) → a i ≡ false) → set_word n a ≡ 0
word_none n a h = has-ext (set_word n a) 0 (λ i. has_word n a i ∙ rw (h i) (and-false (ltb i n)) ∙ sym (has-none i))

module _ (X : Published) (wf : WellFormed X) where
  pub built : State
  built =
      record {
        size = wf.size;
        hidden = set_word wf.size (those (λ nd. nd.hidden) X.nds);
        groups = gather (make wf.size) X.grs group_names 0;
        links = chained node_limit 0 (λ i. set_word wf.size (λ j. connected i j X) ∷ []);
        free = chained node_limit 0 (λ i. set_word wf.size (X.fgs i) ∷ []);
      }

  -- ---- connections and free groups

  -- a test holds of nodes of the roster alone
  on_roster : (f : Node → Bool) (i : ℕ) → those f X.nds i ≡ true → i < wf.size
  on_roster f i h = ltb-true i wf.size (sym (wf.roster i) ∙ held-those f X.nds i h)

  linked_in : (i j : ℕ) → connected i j X ≡ true → (i < wf.size) × (j < wf.size)
  linked_in i j h = (on_roster (λ nd. nd.connections j) i h, on_roster (λ nd. nd.connections i) j (sym (wf.both_ways i j) ∙ h))

  free_on : (h : Bool) (i : ℕ) → free h X i ≡ true → i < wf.size
  free_on h i e = on_roster _ i ((and-eq-true_iff (those (λ nd. cond h nd.hidden (not nd.hidden)) X.nds i) _).0 e).0

  free_in : (i j : ℕ) → X.fgs i j ≡ true → (i < wf.size) × (j < wf.size)
  free_in i j h =
      let p = (and-eq-true_iff (free false X i) _).0 (sym (wf.free_normal i j) ∙ h) in
      (free_on false i p.0, free_on false j ((and-eq-true_iff (free false X j) _).0 p.1).0)

  has-links : (i : ℕ) → has (get_or built.links i 0) ≡ (λ j. connected i j X)
  unfolding built
  has-links i =
      ap has (at_each node_limit (λ k. set_word wf.size (λ j. connected k j X))
      (λ k l. word_none wf.size (λ j. connected k j X) (λ j. unless (connected k j X) (λ e. omega (arith, (linked_in k j e).0, wf.size_range.1)))) i)
      ∙ word-has wf.size (λ j. connected i j X) (λ j h. (linked_in i j h).1)

  has-free : (i : ℕ) → has (get_or built.free i 0) ≡ X.fgs i
  unfolding built
  has-free i =
      ap has (at_each node_limit (λ k. set_word wf.size (X.fgs k))
      (λ k l. word_none wf.size (X.fgs k) (λ j. unless (X.fgs k j) (λ e. omega (arith, (free_in k j e).0, wf.size_range.1)))) i)
      ∙ word-has wf.size (X.fgs i) (λ j h. (free_in i j h).1)

  has-hidden : has built.hidden ≡ those (λ nd. nd.hidden) X.nds
  unfolding built
  has-hidden = word-has wf.size (those (λ nd. nd.hidden) X.nds) (on_roster (λ nd. nd.hidden))

  -- ---- s_groups

  found-group : (s : ℕ) → find s built.groups ≡ on_some (make wf.size s) (X.grs s)
  unfolding built find make
  found-group s =
      looked (make wf.size) X.grs (λ g. g.name) (λ g. g) find (λ t. refl) (λ t x xs. refl) (λ k a e. refl) group_names
      (λ t g e. (wf.groups t g e).in_range.1) s

  groups-are : groups_seen built.groups ≡ X.grs
  unfolding make
  groups-are = fun_ext (λ s. ap (on_some seen) (found-group s) ∙ go s (X.grs s) refl)
    where
      go : (s : ℕ) (o : Option SGroup) → X.grs s ≡ o → on_some seen (on_some (make wf.size s) o) ≡ o
      go s none e = refl
      go s (some g) e = λ k. some (record {
        nodes = word-has wf.size g.nodes (wf.groups s g e).on_roster k;
        namespace = fun_ext (lookup-entries wf.size g.namespace (wf.groups s g e).names) k;
      })

  -- names from k on, ascending, above zero
  record InOrder (k : ℕ) (gs : List Group) : Type 0 where
    rises : (b : ℕ) → b < k → Rising b gs
    from_one : Rising 0 gs

  all-rising : Rising 0 built.groups
  unfolding built make
  all-rising =
      (gather-ind (make wf.size) X.grs InOrder group_names (record { rises = λ b l. tt; from_one = tt })
      (λ k gs q o. record { rises = λ b l. o.rises b (omega arith); from_one = o.from_one })
      (λ k g gs e o. record { rises = λ b l. (l, o.rises k (omega arith)); from_one = ((wf.groups k g e).in_range.0, o.rises k (omega arith)) })
      group_names 0 (zero-add group_names)).from_one

  every-group : (Q : Group → Type 0) → ((s : ℕ) (g : SGroup) → X.grs s ≡ some g → Q (make wf.size s g)) → Every Q built.groups
  unfolding built
  every-group Q h =
      gather-ind (make wf.size) X.grs (λ k gs. Every Q gs) group_names tt (λ k gs q e. e) (λ k g gs q e. (h k g q, e)) group_names 0
      (zero-add group_names)

  regular-make : (s : ℕ) (g : SGroup) → X.grs s ≡ some g → RegularGroup names_per_group wf.size (make wf.size s g)
  unfolding make
  regular-make s g e =
      let fair = wf.groups s g e in
      record {
        small = fair.in_range.1;
        some_member = λ z. any_case node_limit g.nodes fair.someone (λ i l h.
            false≢true (sym (has-none i) ∙ ap (λ (m : ℕ). has m i) (sym z) ∙ ap (λ (a : Set). a i) (word-has wf.size g.nodes fair.on_roster) ∙ h));
        on_roster = word_lt wf.size g.nodes;
        names_sound = sound_entries wf.size g.namespace fair.names;
      }

  met-make : (s : ℕ) (g : SGroup) → X.grs s ≡ some g → Met built.links (make wf.size s g)
  unfolding make
  met-make s g e i j a b n =
      let fair = wf.groups s g e in
      let in_g : has (set_word wf.size g.nodes) ≡ g.nodes = word-has wf.size g.nodes fair.on_roster in
      ap (λ (c : Set). c j) (has-links i) ∙ fair.met i j (ap (λ (c : Set). c i) (sym in_g) ∙ a) (ap (λ (c : Set). c j) (sym in_g) ∙ b) n

  all-regular : Every (RegularGroup names_per_group wf.size) built.groups
  all-regular = every-group (RegularGroup names_per_group wf.size) regular-make

  -- ---- free normal nodes

  roster-is : (i : ℕ) → ltb i built.size ≡ held (X.nds i)
  unfolding built
  roster-is i = sym (wf.roster i)

  in-groups : (i : ℕ) → has (all_members built.groups) i ≡ IsSGroupNode i X.grs
  in-groups i = sym (members-seen names_per_group wf.size built.groups all-rising all-regular i) ∙ ap (IsSGroupNode i) groups-are

  loose-is : (i : ℕ) → loose built i ≡ free false X i
  loose-is i =
      has-free_nodes built i
      ∙ ap₂ (λ (x y : Bool). x && not y) (ap₂ (λ (x y : Bool). x && not y) (roster-is i) (ap (λ (a : Set). a i) has-hidden) ∙ go (X.nds i)) (in-groups i)
    where
      go : (o : Option Node) → held o && not (of_some false (λ nd. nd.hidden) o) ≡ of_some false (λ nd. not nd.hidden) o
      go none = refl
      go (some nd) = refl

  pub built-regular : Regular names_per_group built
  unfolding built
  built-regular =
      record {
        size_low = wf.size_range.0;
        size_high = wf.size_range.1;
        hidden_in = word_lt wf.size (those (λ nd. nd.hidden) X.nds);
        groups_few = omega (arith, length-gather (make wf.size) X.grs group_names, wf.few_groups);
        rising = all-rising;
        each = all-regular;
        links_long = length-each node_limit 0 (λ i. set_word wf.size (λ j. connected i j X));
        free_long = length-each node_limit 0 (λ i. set_word wf.size (X.fgs i));
        within = λ i j h. (linked_in i j (ap (λ (a : Set). a j) (sym (has-links i)) ∙ h)).1;
        met = every-group (Met built.links) met-make;
        wires = record {
          both_ways = λ i j. ap (λ (a : Set). a j) (has-links i) ∙ wf.both_ways i j ∙ sym (ap (λ (a : Set). a i) (has-links j));
          no_self = λ i. ap (λ (a : Set). a i) (has-links i) ∙ wf.no_self i;
          frees = λ i j.
              ap (λ (a : Set). a j) (has-free i) ∙ wf.free_normal i j
              ∙ sym (ap₂ (λ (x y : Bool). x && y) (loose-is i) (ap₂ (λ (x y : Bool). x && (eqb i j || y)) (loose-is j) (ap (λ (a : Set). a j) (has-links i))));
          classes = λ i j h.
              has-ext _ _ (λ k. ap (λ (a : Set). a k) (has-free i ∙ wf.disjoint i j (ap (λ (a : Set). a j) (sym (has-free i)) ∙ h) ∙ sym (has-free j)));
        };
      }

  -- the published state of the state is the one that it is built from
  pub built-seen : published built ≡ X
  unfolding published
  built-seen =
      λ k. record {
        grs = groups-are k;
        fgs = fun_ext has-free k;
        fhs = fun_ext (λ i. ap₂ (λ (x y : Bool). x && not y) (ap (λ (a : Set). a i) has-hidden) (ap (IsSGroupNode i) groups-are) ∙ sym (wf.free_hidden i)) k;
        nds = fun_ext (λ i. node_at i (X.nds i) refl) k;
      }
    where
      node_at : (i : ℕ) (o : Option Node) → X.nds i ≡ o → nodes_seen built.size built.hidden built.links (groups_seen built.groups) i ≡ o
      node_at i none e = rw (roster-is i ∙ ap held e)
      node_at i (some nd) e =
          rw (roster-is i ∙ ap held e) λ k. some (record {
            hidden = (ap (λ (a : Set). a i) has-hidden ∙ ap (of_some false (λ m. m.hidden)) e) k;
            connections = (has-links i ∙ fun_ext (λ j. ap (of_some false (λ m. m.connections j)) e)) k;
            gr_names = (ap (names_seen i) groups-are ∙ sym (wf.gr_names_are i nd e)) k;
          })

-- ---- the table

-- the table of a well-formed published state
pub table_of : (X : Published) → WellFormed X → List ℕ
table_of X wf = layout names_per_group (built X wf)

pub table_sound : (X : Published) (wf : WellFormed X) → Sound names_per_group (table_of X wf)
unfolding table_of
table_sound X wf = (sound-iff names_per_group (layout names_per_group (built X wf))).0 (regular-test names_per_group (built X wf) (built-regular X wf))

pub table-seen : (X : Published) (wf : WellFormed X) → seen_table (table_of X wf) ≡ X
unfolding table_of
table-seen X wf = layout-seen (built X wf) (built-regular X wf) ∙ built-seen X wf
