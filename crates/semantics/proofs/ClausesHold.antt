-- The table of a regular state is sound by the clauses of document 01. Assumes nothing.
use Rattle.std.specs.Prelude.{◌≡◌, refl, true, ◌||◌, List, ℕ, ◌≤◌, ◌<◌, eqb, length, get_or}
use Rattle.std.proofs.Common.{sym, ap, ◌∙◌, true≢false, arith, eq-eqb, ne_eqb}
use Rattle.std.proofs.Math.Bool.{and-eq-true_iff}
use Rattle.std.proofs.Math.ListN.{get_or-eq_default}
use Rattle.nodes.specs.Sets.{node_limit, has}
use Rattle.nodes.proofs.SetLaws.{has-none, has-below, has-ext}
use Rattle.entries.specs.Entries.{word_of}
use Rattle.semantics.specs.Sizes.{table_words}
use Rattle.semantics.specs.State.{Group, State}
use Rattle.semantics.specs.Table.{contents}
use Rattle.semantics.specs.Soundness.{count_of, size_of, links_of, free_of, In, Sound}
use Rattle.semantics.specs.Regular.{Regular, RegularGroup, loose}
use Rattle.semantics.specs.Truth.{unless}
use Rattle.semantics.specs.Places.{group_at, every-iff, rising-iff}
use Rattle.semantics.specs.EntryPlaces.{no_entry, entry_at, climbing-iff, distinct-iff, hosted-iff}
use Rattle.semantics.specs.FreeGroupsOfNodes.{loose-on_roster, loose_in}
use Rattle.semantics.specs.WordByWord.{Reads}
use Rattle.semantics.proofs.WordsMeaning.{Means, in-same, in-state, past-groups, free_normal-iff, counted-regular, regular-means}

module _ {cap : ℕ} {st : State} {t : List ℕ} (long : length t ≡ table_words cap) (r : Regular cap st) (w : Reads cap st t) where
  m : Means cap st t
  m = regular-means r w

  group : (g : ℕ) → g < count_of t → RegularGroup cap st.size (group_at st.groups g)
  group = counted-regular r w

  -- node i of the roster has its words
  near : (i : ℕ) → i < st.size → i < node_limit
  near i h = omega (arith, r.size_high)

  -- a node in the words of node i's connections
  linked_in : (i j : ℕ) → i < size_of t → In j (links_of t i) → has (get_or st.links i 0) j ≡ true
  linked_in i j h k = in-same j (m.links i (near i (omega (arith, m.size)))) k

  -- a node in the words of node i's free group
  free_in : (i j : ℕ) → i < node_limit → In j (free_of t i) → (loose st i ≡ true) × (loose st j ≡ true)
  free_in i j h k =
      let f : has (get_or st.free i 0) j ≡ true = in-same j (m.free i h) k in
      (((and-eq-true_iff (loose st i) _).0 (sym (r.wires.frees i j) ∙ f)).0, loose_in r i j f)

  -- a node past the roster has no connections
  unlinked : (i : ℕ) → size_of t ≤ i → ◌≡◌ {A = ℕ} (get_or st.links i 0) 0
  unlinked i h = has-ext _ _ (λ j. unless _ (λ k. omega (arith, m.size, r.within j i (sym (r.wires.both_ways i j) ∙ k))) ∙ sym (has-none j))

  -- a node that is not free has no free group
  unfree : (i : ℕ) → (loose st i ≡ true → ⊥) → ◌≡◌ {A = ℕ} (get_or st.free i 0) 0
  unfree i h = has-ext _ _ (λ j. unless _ (λ k. h ((and-eq-true_iff (loose st i) _).0 (sym (r.wires.frees i j) ∙ k)).0) ∙ sym (has-none j))

  loose-near : (i : ℕ) → loose st i ≡ true → i < node_limit
  loose-near i h = near i (loose-on_roster st i h)

  -- two free normal nodes
  sharing : (i j : ℕ) → loose st i ≡ true → loose st j ≡ true → has (get_or st.free i 0) j ≡ eqb i j || has (get_or st.links i 0) j
  sharing i j a b = r.wires.frees i j ∙ rw (a, b)

  pub clauses-hold : Sound cap t
  clauses-hold = record {
    long = long;
    size_range = (omega (arith, m.size, r.size_low), omega (arith, m.size, r.size_high));
    count_range = omega (arith, m.count, r.groups_few);
    group_range = λ g h. omega (arith, m.name g h, ((rising-iff 0 st.groups).0 r.rising).above g (in-state m g h));
    process_range = λ g k h l.
        let c = (climbing-iff 0 _).0 (group g h).names_sound.names in
        let e : k < length (group_at st.groups g).names = omega (arith, m.names g h) in
        (omega (arith, m.process g k h l, c.above k e), omega (arith, m.process g k h l, c.name_fits k e));
    groups_ascend = λ g h d l.
        omega (arith, m.name g (omega arith), m.name h l, ((rising-iff 0 st.groups).0 r.rising).upward g h d (in-state m h l));
    manned = λ g h z. (group g h).some_member (sym (m.members g h) ∙ z);
    names_few = λ g h. omega (arith, m.names g h, (group g h).names_sound.room);
    names_ascend = λ g j k h d l.
        omega (arith, m.process g j h (omega arith), m.process g k h l, ((climbing-iff 0 _).0 (group g h).names_sound.names).upward j k d (omega (arith, m.names g h)));
    pids_distinct = λ g j k h d l e.
        (distinct-iff _).0 (group g h).names_sound.pids j k d (omega (arith, m.names g h)) (sym (m.pid g j h (omega arith)) ∙ e ∙ m.pid g k h l);
    hosted = λ g k h l. rw (m.pid g k h l, m.size) ((hosted-iff st.size _).0 (group g h).names_sound.hosts k (omega (arith, m.names g h)));
    hidden_within = λ i k. omega (arith, m.size, has-below _ st.size i r.hidden_in (in-same i m.hidden k));
    members_within = λ g h i k. omega (arith, m.size, has-below _ st.size i (group g h).on_roster (in-same i (m.members g h) k));
    links_within = λ i h j k. omega (arith, m.size, r.within i j (linked_in i j h k));
    free_within = λ i h j k. omega (arith, m.size, loose-on_roster st j (free_in i j (near i (omega (arith, m.size))) k).1);
    spare_zero = w.spare;
    contents_zero = λ g h l. w.heads g l ∙ ap contents (past-groups m g h);
    members_zero = λ g h l. w.members g l ∙ ap (λ (x : Group). x.members) (past-groups m g h);
    links_zero = λ i h l. m.links i l ∙ unlinked i h;
    free_zero = λ i h l. m.free i l ∙ unfree i (λ k. omega (arith, m.size, loose-on_roster st i k));
    names_zero = λ g k h l c.
        w.entries g k (omega (arith, m.count, r.groups_few)) c ∙ ap word_of (get_or-eq_default (group_at st.groups g).names no_entry (omega (arith, m.names g h)));
    bodies_zero = λ g k h l c. w.entries g k l c ∙ ap (λ (x : Group). word_of (entry_at x.names k)) (past-groups m g h);
    both_ways = λ i j h l k. in-same i (sym (m.links j (near j (omega (arith, m.size))))) (sym (r.wires.both_ways i j) ∙ linked_in i j h k);
    not_itself = λ i h k. true≢false (sym (linked_in i i h k) ∙ r.wires.no_self i);
    met = λ g i j h a b d.
        let u : has (group_at st.groups g).members i ≡ true = in-same i (m.members g h) a in
        in-same j (sym (m.links i (near i (has-below _ st.size i (group g h).on_roster u))))
        ((every-iff _ st.groups).0 r.met g (in-state m g h) i j u (in-same j (m.members g h) b) d);
    covered = λ i f.
        let a : loose st i ≡ true = (free_normal-iff m i).0 f in
        in-same i (sym (m.free i (loose-near i a))) (sharing i i a a ∙ rw (eq-eqb i i refl));
    only_free = λ i h n. m.free i h ∙ unfree i (λ k. n ((free_normal-iff m i).1 k));
    own_words = λ i j h k.
        m.free j (loose-near j (free_in i j h k).1) ∙ sym (r.wires.classes i j (in-same j (m.free i h) k)) ∙ sym (m.free i h);
    shared = λ i j f g d.
        let a : loose st i ≡ true = (free_normal-iff m i).0 f in
        ap (λ (x : ℕ). has x j) (m.free i (loose-near i a)) ∙ sharing i j a ((free_normal-iff m j).0 g) ∙ rw (ne_eqb i j d)
        (ap (λ (x : ℕ). has x j) (sym (m.links i (loose-near i a))));
  }
