-- The test, part by part, says the clauses of the soundness of a table, and the clauses say that every part of the test passes. Assumes nothing.
use Rattle.std.specs.Prelude.{◌≡◌, ◌↔◌, true, not, ◌&&◌, List, ℕ, zero, suc, ◌+◌, ◌-◌, ◌*◌, ◌/◌, ◌%◌, ◌≤◌, ◌<◌, length}
use Rattle.std.proofs.Common.{sym, ap, ◌∙◌, ⊎_elim, true≢false, eq-or-lt_of_le, le_of_suc-le-suc, not-suc-le-zero, div-add-mod', mod-lt, le-div_iff_mul-le, div-lt_iff_lt-mul, mul_comm, mul-le-mul_left, arith, eqb-true, eq-eqb, ltb-true, lt-ltb}
use Rattle.std.proofs.Math.Bool.{and-eq-true_iff}
use Rattle.std.proofs.lemmas.Bool.{not-true}
use Rattle.nodes.specs.Sets.{node_limit, empty, roster, diff, word_at}
use Rattle.nodes.specs.Bools.{by_lt, test-ext}
use Rattle.nodes.proofs.SetLaws.{has_diff, has-roster, below-pow}
use Rattle.semantics.specs.Sizes.{group_limit, contents_at, members_at, links_at, free_at, bodies_at, table_words}
use Rattle.semantics.specs.Soundness.{size_of, hidden_of, count_of, name_of, members_of, links_of, free_of, entry_of, In, FreeNormal, Sound}
use Rattle.semantics.specs.Truth.{unless}
use Rattle.free_test.specs.WireTests.{all_below, all_zero, links_sound, free_sound}
use Rattle.free_test.specs.Below.{tests, below-iff, within-iff}
use Rattle.free_test.proofs.WireTestMeaning.{SoundLinks, SoundFree, links_sound-iff, members_met-iff, free_sound-iff}
use Rattle.groups_test.specs.GroupTests.{name_before, contents_right, members_right, part, links_part, free_part, met_right, names_right, head_right, unused_zero, grouped_in}
use Rattle.groups_test.specs.GroupsBelow.{body-within}
use Rattle.groups_test.specs.GroupMembers.{length_part, part-word, grouped-has, grouped_by}
use Rattle.table.specs.NamesTestMeaning.{NamesSound, names-iff}

-- ---- what is tested

-- the normal nodes of the roster in no s_group
abbrev pub loose_of : List ℕ → ℕ
loose_of t = diff (diff (roster (size_of t)) (hidden_of t)) (grouped_in t (count_of t))

-- every part of a run of the table's length passes
pub record Right (cap : ℕ) (t : List ℕ) : Type 0 where
  pub head : head_right (size_of t) (hidden_of t) (count_of t) (word_at t 3) ≡ true
  pub contents : all_below (count_of t) (contents_right cap t) ≡ true
  pub members : all_below (count_of t) (members_right t (size_of t)) ≡ true
  pub unused : unused_zero cap t (count_of t) ≡ true
  pub links : links_sound (links_part t) (size_of t) ≡ true
  pub met : all_below (count_of t) (met_right t) ≡ true
  pub free : free_sound (links_part t) (free_part t) (loose_of t) (size_of t) ≡ true
  pub names : all_below (count_of t) (names_right cap t (size_of t)) ≡ true

-- ---- parts of a run

-- a part is zero where each of its words is
zero-iff : (t : List ℕ) (a b : ℕ) → b ≤ length t → (all_zero (part t a b) ≡ true) ↔ ((k : ℕ) → a ≤ k → k < b → word_at t k ≡ 0)
unfolding all_zero
zero-iff t a b h = (
  λ e k l u.
      let q : k ≡ a + (k - a) = omega arith in
      let i : k - a < b - a = omega arith in
      ap (word_at t) q ∙ sym (part-word t a b (k - a) i) ∙ eqb-true _ _ ((below-iff (length (part t a b)) (λ j. empty (word_at (part t a b) j))).0 e (k - a) (omega (arith, length_part t a b h))),
  λ z.
      (below-iff (length (part t a b)) (λ j. empty (word_at (part t a b) j))).1 λ i l.
      let u : i < b - a = omega (arith, length_part t a b h) in
      eq-eqb _ _ (part-word t a b i u ∙ z (a + i) (omega arith) (omega arith)),
)

-- a part of no words is zero
pub zero-none : (t : List ℕ) (a : ℕ) → a ≤ length t → all_zero (part t a a) ≡ true
zero-none t a h = (zero-iff t a a h).1 (λ k l u. absurd (omega arith))

-- a part is zero where both of its parts are
pub zero-split : (t : List ℕ) (a b c : ℕ) → a ≤ b → b ≤ c → c ≤ length t → all_zero (part t a c) ≡ all_zero (part t a b) && all_zero (part t b c)
zero-split t a b c l m h =
    test-ext _ _
    (λ e. (and-eq-true_iff _ _).1 ((zero-iff t a b (omega arith)).1 (λ k x y. (zero-iff t a c h).0 e k x (omega arith)), (zero-iff t b c h).1 (λ k x y. (zero-iff t a c h).0 e k (omega arith) y)))
    (λ e.
    let both = (and-eq-true_iff _ _).0 e in
    (zero-iff t a c h).1 (λ k x y.
    ⊎_elim (λ (z : k < b). (zero-iff t a b (omega arith)).0 both.0 k x z) (λ (z : b ≤ k). (zero-iff t b c h).0 both.1 k z y) (by_lt k b)))

-- ---- contents and members

-- names that are each above the one before are each above all before
upward : (cap : ℕ) (t : List ℕ) (n : ℕ) → ((g : ℕ) → g < n → name_before t g < name_of t g) → (g h : ℕ) → g < h → h < n → name_of t g < name_of t h
upward cap t n up g zero d l = absurd (not-suc-le-zero d)
upward cap t n up g (suc h) d l =
    ⊎_elim (λ (e : g ≡ h). rw e (up (suc h) l)) (λ (k : g < h). omega (arith, upward cap t n up g h k (omega arith), up (suc h) l))
    (eq-or-lt_of_le (le_of_suc-le-suc d))

-- the name before group g is below group g's
above_before : (t : List ℕ) (n : ℕ) → ((g : ℕ) → g < n → 1 ≤ name_of t g) → ((g h : ℕ) → g < h → h < n → name_of t g < name_of t h)
    → (g : ℕ) → g < n → name_before t g < name_of t g
above_before t n low up zero l = low zero l
above_before t n low up (suc g) l = up g (suc g) (omega arith) l

-- ---- the free normal nodes

module _ (t : List ℕ) (long : bodies_at ≤ length t) (few : count_of t ≤ group_limit) where
  loose-tells : (i : ℕ) → In i (loose_of t) ↔ FreeNormal t i
  loose-tells i = (
    λ m.
        let p = (and-eq-true_iff _ _).0 (sym (has_diff (diff (roster (size_of t)) (hidden_of t)) (grouped_in t (count_of t)) i) ∙ m) in
        let q = (and-eq-true_iff _ _).0 (sym (has_diff (roster (size_of t)) (hidden_of t) i) ∙ p.0) in
        record {
          on_roster = ltb-true i (size_of t) (sym (has-roster (size_of t) i) ∙ q.0);
          normal = λ h. true≢false (sym h ∙ not-true _ q.1);
          in_none = λ g l h. true≢false (sym (grouped-has t long (count_of t) few g i l h) ∙ not-true _ p.1);
        },
    λ f.
        has_diff (diff (roster (size_of t)) (hidden_of t)) (grouped_in t (count_of t)) i
        ∙ (and-eq-true_iff _ _).1 (
          has_diff (roster (size_of t)) (hidden_of t) i
              ∙ (and-eq-true_iff _ _).1 (has-roster (size_of t) i ∙ lt-ltb i (size_of t) f.on_roster, ap not (unless _ f.normal)),
          ap not (unless _ (λ h.
              let u = grouped_by t long (count_of t) few i h in
              f.in_none u.0 u.1 u.2)),
        ),
  )

-- ---- all parts

module _ (cap : ℕ) (t : List ℕ) (long : length t ≡ table_words cap) where
  links_long : length (links_part t) ≡ node_limit
  links_long = length_part t links_at free_at (omega arith)

  free_long : length (free_part t) ≡ node_limit
  free_long = length_part t free_at bodies_at (omega arith)

  same-links : (i : ℕ) → i < node_limit → word_at (links_part t) i ≡ links_of t i
  same-links i l = part-word t links_at free_at i l

  same-free : (i : ℕ) → i < node_limit → word_at (free_part t) i ≡ free_of t i
  same-free i l = part-word t free_at bodies_at i l

  -- the bodies past the first G s_groups, word by word
  bodies-iff : (G : ℕ) → G ≤ group_limit → (all_zero (part t (bodies_at + cap * G) (table_words cap)) ≡ true)
      ↔ ((g k : ℕ) → G ≤ g → g < group_limit → k < cap → entry_of cap t g k ≡ 0)
  bodies-iff G few = (
    λ e g k l m b.
        (zero-iff t (bodies_at + cap * G) (table_words cap) (omega arith)).0 e (bodies_at + (cap * g + k)) (omega (arith, mul-le-mul_left cap l))
        (omega (arith, body-within cap g group_limit m (omega arith))),
    λ z. (zero-iff t (bodies_at + cap * G) (table_words cap) (omega arith)).1 λ k l m.
        let some : 0 < cap = omega arith in
        let at = k - bodies_at in
        let e : bodies_at + (cap * (at / cap) + at % cap) ≡ k = omega (arith, div-add-mod' at cap, mul_comm cap (at / cap)) in
        ap (word_at t) (sym e)
        ∙ z (at / cap) (at % cap) ((le-div_iff_mul-le some).1 (omega (arith, mul_comm cap G))) ((div-lt_iff_lt-mul some).1 (omega arith)) (mod-lt at some),
  )

  module _ (few : count_of t ≤ group_limit) where
    body-inside : (g : ℕ) → g < count_of t → bodies_at + cap * g + cap ≤ length t
    body-inside g l = omega (arith, body-within cap g (count_of t) l few)

    free-iff : SoundLinks (size_of t) (links_of t)
        → (free_sound (links_part t) (free_part t) (loose_of t) (size_of t) ≡ true) ↔ SoundFree (size_of t) (FreeNormal t) (links_of t) (free_of t)
    free-iff s =
        free_sound-iff (links_part t) (free_part t) (loose_of t) (size_of t) (FreeNormal t) (links_of t) (free_of t) links_long free_long same-links same-free
        (loose-tells t (omega arith) few) (λ i f. f.on_roster) s

  -- a table all of whose parts pass is sound
  pub right-sound : Right cap t → Sound cap t
  right-sound r =
      let head = simp (within-iff, tests) at r.head in
      let few : count_of t ≤ group_limit = head.1.1.0 in
      let contents = simp tests at r.contents in
      let members = simp (within-iff, tests) at r.members in
      let unused = simp tests at r.unused in
      let s : SoundLinks (size_of t) (links_of t) = (links_sound-iff (links_part t) (size_of t) (links_of t) links_long same-links).0 r.links in
      let f : SoundFree (size_of t) (FreeNormal t) (links_of t) (free_of t) = (free-iff few s).0 r.free in
      let named : (g : ℕ) → g < count_of t → NamesSound cap t (size_of t) g =
      λ g l. (names-iff cap t (size_of t) g (body-inside few g l)).0 ((below-iff _ _).0 r.names g l) in
      let up : (g : ℕ) → g < count_of t → name_before t g < name_of t g = λ g l. (contents g l).0 in
      record {
        long = long;
        size_range = (head.0, head.1.0);
        count_range = few;
        group_range = λ g l. omega (arith, up g l);
        process_range = λ g k l. (named g l).range k;
        groups_ascend = upward cap t (count_of t) up;
        manned = λ g l z. (members g l).0 (eq-eqb _ _ z);
        names_few = λ g l. (contents g l).1;
        names_ascend = λ g j k l. (named g l).ascend j k;
        pids_distinct = λ g j k l. (named g l).distinct j k;
        hosted = λ g k l. (named g l).hosted k;
        hidden_within = head.1.1.1.1;
        members_within = λ g l. (members g l).1;
        links_within = s.links_within;
        free_within = f.free_within;
        spare_zero = eqb-true _ _ head.1.1.1.0;
        contents_zero = λ g l m. (zero-iff t (contents_at + count_of t) members_at (omega arith)).0 unused.0 (contents_at + g) (omega arith) (omega arith);
        members_zero = λ g l m. (zero-iff t (members_at + count_of t) links_at (omega arith)).0 unused.1.0 (members_at + g) (omega arith) (omega arith);
        links_zero = s.links_zero;
        free_zero = f.free_zero;
        names_zero = λ g k l. (named g l).zero k;
        bodies_zero = (bodies-iff (count_of t) few).0 unused.1.1;
        both_ways = s.both_ways;
        not_itself = s.not_itself;
        met = λ g i j l.
            (members_met-iff (links_part t) (members_of t g) (links_of t) links_long same-links
            (below-pow (members_of t g) node_limit (λ k m. omega (arith, (members g l).1 k m, head.1.0)))).0 ((below-iff _ _).0 r.met g l) i j;
        covered = f.covered;
        only_free = f.only_free;
        own_words = f.own_words;
        shared = f.shared;
      }

  -- every part of a sound table passes
  pub sound-right : Sound cap t → Right cap t
  sound-right s =
      let l : SoundLinks (size_of t) (links_of t) = record {
        few = s.size_range.1;
        links_within = s.links_within;
        links_zero = s.links_zero;
        both_ways = s.both_ways;
        not_itself = s.not_itself;
      } in
      record {
        head = simp (within-iff, tests) (s.size_range.0, (s.size_range.1, (s.count_range, (eq-eqb _ _ s.spare_zero, s.hidden_within))));
        contents = simp tests (λ g h. (above_before t (count_of t) s.group_range s.groups_ascend g h, s.names_few g h));
        members = simp (within-iff, tests) (λ g h. (λ e. s.manned g h (eqb-true _ _ e), s.members_within g h));
        unused = simp tests (
          (zero-iff t (contents_at + count_of t) members_at (omega arith)).1 (λ k a b.
              let e : k ≡ contents_at + (k - contents_at) = omega arith in
              ap (word_at t) e ∙ s.contents_zero (k - contents_at) (omega arith) (omega arith)),
          (
            (zero-iff t (members_at + count_of t) links_at (omega arith)).1 (λ k a b.
                let e : k ≡ members_at + (k - members_at) = omega arith in
                ap (word_at t) e ∙ s.members_zero (k - members_at) (omega arith) (omega arith)),
            (bodies-iff (count_of t) s.count_range).1 s.bodies_zero,
          ),
        );
        links = (links_sound-iff (links_part t) (size_of t) (links_of t) links_long same-links).1 l;
        met = (below-iff _ _).1 (λ g h.
            (members_met-iff (links_part t) (members_of t g) (links_of t) links_long same-links
            (below-pow (members_of t g) node_limit (λ k m. omega (arith, s.members_within g h k m, s.size_range.1)))).1 (λ i j. s.met g i j h));
        free = (free-iff s.count_range l).1 (record {
          free_within = s.free_within;
          free_zero = s.free_zero;
          covered = s.covered;
          only_free = s.only_free;
          own_words = s.own_words;
          shared = s.shared;
        });
        names = (below-iff _ _).1 (λ g h. (names-iff cap t (size_of t) g (body-inside s.count_range g h)).1 (record {
          few = s.names_few g h;
          range = λ k. s.process_range g k h;
          ascend = λ j k. s.names_ascend g j k h;
          distinct = λ j k. s.pids_distinct g j k h;
          hosted = λ k. s.hosted g k h;
          zero = λ k. s.names_zero g k h;
        }));
      }
