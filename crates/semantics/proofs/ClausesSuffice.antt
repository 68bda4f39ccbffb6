-- From the clauses of document 01: the state that the words stand for is regular, and the words are those of the state. Assumes nothing.
use Rattle.std.specs.Prelude.{◌≡◌, true, false, ◌&&◌, ◌||◌, List, ℕ, ◌≤◌, ◌<◌, eqb, length, get_or}
use Rattle.std.proofs.Common.{sym, ap, ◌∙◌, ⊎_elim, true≢false, arith, eq-eqb, ne_eqb}
use Rattle.std.proofs.Math.Bool.{and-eq-true_iff}
use Rattle.std.proofs.Math.ListN.{get_or-eq_default}
use Rattle.nodes.specs.Sets.{node_limit, has}
use Rattle.nodes.specs.Bools.{by_lt, by_eq, by_test, test-ext}
use Rattle.nodes.proofs.SetLaws.{has-none, below-pow}
use Rattle.entries.specs.Entries.{word_of}
use Rattle.semantics.specs.Sizes.{group_limit}
use Rattle.semantics.specs.State.{Group, State}
use Rattle.semantics.specs.Table.{contents, state_of}
use Rattle.semantics.specs.Soundness.{size_of, count_of, contents_of, members_of, names_of, links_of, free_of, entry_of, In, Sound}
use Rattle.semantics.specs.Regular.{Regular, RegularGroup, Met, loose}
use Rattle.semantics.specs.Truth.{unless}
use Rattle.semantics.specs.Places.{group_at, every-iff, rising-iff}
use Rattle.semantics.specs.EntryPlaces.{no_entry, entry_at, climbing-iff, distinct-iff, hosted-iff}
use Rattle.semantics.specs.TestLaws.{◌also◌}
use Rattle.semantics.proofs.StateTest.{has-place}
use Rattle.semantics.specs.WordsOfState.{Sized, Laid}
use Rattle.semantics.specs.WordByWord.{Reads, reads-laid}
use Rattle.semantics.proofs.WordsMeaning.{Means, in-same, in_words, past-groups, free_normal-iff}
use Rattle.semantics.proofs.ReadOff.{state-sized, state-means}

module _ {cap : ℕ} {st : State} {t : List ℕ} (s : Sound cap t) (m : Means cap st t) where
  -- ---- the words are those of the state

  heads : (g : ℕ) → g < group_limit → contents_of t g ≡ contents (group_at st.groups g)
  heads g l =
      ⊎_elim (λ (h : g < count_of t). omega (arith, m.name g h, m.names g h)) (λ (h : count_of t ≤ g). s.contents_zero g h l ∙ ap contents (sym (past-groups m g h)))
      (by_lt g (count_of t))

  members : (g : ℕ) → g < group_limit → members_of t g ≡ (group_at st.groups g).members
  members g l =
      ⊎_elim (λ (h : g < count_of t). m.members g h) (λ (h : count_of t ≤ g). s.members_zero g h l ∙ ap (λ (x : Group). x.members) (sym (past-groups m g h)))
      (by_lt g (count_of t))

  entries : (g k : ℕ) → g < group_limit → k < cap → entry_of cap t g k ≡ word_of (entry_at (group_at st.groups g).names k)
  entries g k l c =
      ⊎_elim (λ (h : g < count_of t). ⊎_elim (used h) (spare h) (by_lt k (names_of t g)))
      (λ (h : count_of t ≤ g). s.bodies_zero g k h l c ∙ ap (λ (x : Group). word_of (entry_at x.names k)) (sym (past-groups m g h)))
      (by_lt g (count_of t))
    where
      used : g < count_of t → k < names_of t g → entry_of cap t g k ≡ word_of (entry_at (group_at st.groups g).names k)
      used h b = omega (arith, m.process g k h b, m.pid g k h b)

      spare : g < count_of t → names_of t g ≤ k → entry_of cap t g k ≡ word_of (entry_at (group_at st.groups g).names k)
      spare h b =
          s.names_zero g k h b c ∙ ap word_of (sym (get_or-eq_default (group_at st.groups g).names no_entry (omega (arith, m.names g h))))

  clauses-read : Reads cap st t
  clauses-read = record {
    size = m.size;
    hidden = m.hidden;
    count = m.count;
    spare = s.spare_zero;
    heads = heads;
    members = members;
    links = m.links;
    free = m.free;
    entries = entries;
  }

  -- ---- s_groups

  group : (g : ℕ) → g < length st.groups → RegularGroup cap st.size (group_at st.groups g)
  group g l =
      let h : g < count_of t = in_words m g l in
      let n : names_of t g ≡ length (group_at st.groups g).names = m.names g h in
      record {
        small = omega (arith, m.name g h);
        some_member = λ z. s.manned g h (m.members g h ∙ z);
        on_roster = below-pow _ st.size (λ i k. omega (arith, m.size, s.members_within g h i (in-same i (sym (m.members g h)) k)));
        names_sound = record {
          room = omega (arith, s.names_few g h);
          names = (climbing-iff 0 _).1 (record {
            above = λ k b. let c : k < names_of t g = omega arith in omega (arith, m.process g k h c, (s.process_range g k h c).0);
            name_fits = λ k b. let c : k < names_of t g = omega arith in omega (arith, m.process g k h c, (s.process_range g k h c).1);
            pid_fits = λ k b. let c : k < names_of t g = omega arith in omega (arith, m.pid g k h c);
            upward = λ j k d b.
                let c : k < names_of t g = omega arith in
                omega (arith, m.process g j h (omega arith), m.process g k h c, s.names_ascend g j k h d c);
          });
          pids = (distinct-iff _).1 (λ j k d b e.
              let c : k < names_of t g = omega arith in
              s.pids_distinct g j k h d c (m.pid g j h (omega arith) ∙ e ∙ sym (m.pid g k h c)));
          hosts = (hosted-iff st.size _).1 (λ k b.
              let c : k < names_of t g = omega arith in
              rw (← m.pid g k h c, ← m.size) (s.hosted g k h c));
        };
      }

  -- ---- connections

  near : (i : ℕ) → i < size_of t → i < node_limit
  near i h = omega (arith, s.size_range.1)

  module _ (z : Sized st) where
    -- a connection of the state stands in the words of two nodes of the roster
    linked : (i j : ℕ) → has (get_or st.links i 0) j ≡ true → (i < size_of t) × (j < size_of t) × In j (links_of t i)
    linked i j k =
        let a : i < node_limit = omega (arith, has-place st.links i j k, z.links_long) in
        let b : In j (links_of t i) = in-same j (sym (m.links i a)) k in
        let c : i < size_of t = ⊎_elim (λ (h : i < size_of t). h) (λ (h : size_of t ≤ i). absurd (true≢false (sym (in-same j (s.links_zero i h a) b) ∙ has-none j))) (by_lt i (size_of t)) in
        (c, s.links_within i c j b, b)

    met : (g : ℕ) → g < length st.groups → Met st.links (group_at st.groups g)
    met g l i j a b d =
        let h : g < count_of t = in_words m g l in
        let u : In i (members_of t g) = in-same i (sym (m.members g h)) a in
        in-same j (m.links i (near i (s.members_within g h i u))) (s.met g i j h u (in-same j (sym (m.members g h)) b) d)

    other_way : (i j : ℕ) → has (get_or st.links i 0) j ≡ true → has (get_or st.links j 0) i ≡ true
    other_way i j k =
        let q = linked i j k in
        in-same i (m.links j (near j q.1)) (s.both_ways i j q.0 q.1 q.2)

    -- ---- free groups

    -- a node with a word that is not empty is a free normal node
    free-node : (i j : ℕ) → i < node_limit → In j (free_of t i) → loose st i ≡ true
    free-node i j a k =
        ⊎_elim (λ (h : loose st i ≡ true). h)
        (λ (h : loose st i ≡ false).
        absurd (true≢false (sym (in-same j (s.only_free i a (λ f. true≢false (sym ((free_normal-iff m i).0 f) ∙ h))) k) ∙ has-none j)))
        (by_test (loose st i))

    -- the nodes of a free group are free normal nodes
    freed : (i j : ℕ) → i < node_limit → In j (free_of t i) → (loose st i ≡ true) × (loose st j ≡ true)
    freed i j a k =
        let u : loose st i ≡ true = free-node i j a k in
        let b : j < node_limit = near j (s.free_within i ((free_normal-iff m i).1 u).on_roster j k) in
        (u, free-node j j b (in-same j (sym (s.own_words i j a k)) k))

    shared : (i j : ℕ) → i < node_limit → loose st i ≡ true → loose st j ≡ true → has (get_or st.free i 0) j ≡ eqb i j || has (get_or st.links i 0) j
    shared i j a u v = ⊎_elim same other (by_eq i j)
      where
        same : i ≡ j → has (get_or st.free i 0) j ≡ eqb i j || has (get_or st.links i 0) j
        same e = rw (eq-eqb i j e) (ap (has (get_or st.free i 0)) (sym e) ∙ in-same i (m.free i a) (s.covered i ((free_normal-iff m i).1 u)))

        other : (i ≡ j → ⊥) → has (get_or st.free i 0) j ≡ eqb i j || has (get_or st.links i 0) j
        other d =
            rw (ne_eqb i j d, ← m.free i a, ← m.links i a) (s.shared i j ((free_normal-iff m i).1 u) ((free_normal-iff m j).1 v) d)

    frees : (i j : ℕ) → has (get_or st.free i 0) j ≡ loose st i && (loose st j && (eqb i j || has (get_or st.links i 0) j))
    frees i j = test-ext _ _ there back
      where
        there : has (get_or st.free i 0) j ≡ true → loose st i && (loose st j && (eqb i j || has (get_or st.links i 0) j)) ≡ true
        there k =
            let a : i < node_limit = omega (arith, has-place st.free i j k, z.free_long) in
            let q = freed i j a (in-same j (sym (m.free i a)) k) in
            q.0 also q.1 also (sym (shared i j a q.0 q.1) ∙ k)

        back : loose st i && (loose st j && (eqb i j || has (get_or st.links i 0) j)) ≡ true → has (get_or st.free i 0) j ≡ true
        back k =
            let p = (and-eq-true_iff (loose st i) _).0 k in
            let q = (and-eq-true_iff (loose st j) _).0 p.1 in
            shared i j (near i ((free_normal-iff m i).1 p.0).on_roster) p.0 q.0 ∙ q.1

    classes : (i j : ℕ) → has (get_or st.free i 0) j ≡ true → get_or st.free i 0 ≡ get_or st.free j 0
    classes i j k =
        let a : i < node_limit = omega (arith, has-place st.free i j k, z.free_long) in
        let b : In j (free_of t i) = in-same j (sym (m.free i a)) k in
        let c : j < node_limit = near j ((free_normal-iff m j).1 (freed i j a b).1).on_roster in
        sym (m.free i a) ∙ sym (s.own_words i j a b) ∙ m.free j c

    clauses-regular : Regular cap st
    clauses-regular = record {
      size_low = omega (arith, m.size, s.size_range.0);
      size_high = omega (arith, m.size, s.size_range.1);
      hidden_in = below-pow _ st.size (λ i k. omega (arith, m.size, s.hidden_within i (in-same i (sym m.hidden) k)));
      groups_few = z.groups_few;
      rising = (rising-iff 0 st.groups).1 (record {
        above = λ g l. let h : g < count_of t = in_words m g l in omega (arith, m.name g h, s.group_range g h);
        upward = λ g h d l.
            let a : h < count_of t = in_words m h l in
            omega (arith, m.name g (omega arith), m.name h a, s.groups_ascend g h d a);
      });
      each = (every-iff _ st.groups).1 group;
      links_long = z.links_long;
      free_long = z.free_long;
      within = λ i j k. omega (arith, m.size, (linked i j k).1);
      met = (every-iff _ st.groups).1 met;
      wires = record {
        both_ways = λ i j. test-ext _ _ (other_way i j) (other_way j i);
        no_self = λ i. unless _ (λ k. let q = linked i i k in s.not_itself i q.0 q.2);
        frees = frees;
        classes = classes;
      };
    }

-- ---- the state that the words stand for

pub clauses-laid : {cap : ℕ} {t : List ℕ} → Sound cap t → Laid cap (state_of cap t) t
clauses-laid s = reads-laid (clauses-read s (state-means s)) (state-sized s) s.long

pub clauses-state : {cap : ℕ} {t : List ℕ} → Sound cap t → Regular cap (state_of cap t)
clauses-state s = clauses-regular s (state-means s) (state-sized s)
