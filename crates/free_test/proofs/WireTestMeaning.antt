-- What the tests of connections and free normal groups say, in the clauses of the soundness of a table. L and F give the words of a node, as
-- `links_of t` and `Free-of t` do; a test reads them from runs that agree with them. Assumes nothing.
use Rattle.std.specs.Prelude.{◌≡◌, refl, ◌↔◌, ◌≢◌, ◌⊎◌, Bool, true, false, not, ◌&&◌, ◌||◌, cond, List, ℕ, ◌^◌, ◌≤◌, ◌<◌, eqb, length}
use Rattle.std.proofs.Math.Path.{sym, ap}
use Rattle.std.proofs.Common.{ap₂, ◌∙◌, inl, inr, true≢false, arith, eq-eqb, ne_eqb}
use Rattle.std.proofs.Math.Logic.{⊎_elim}
use Rattle.std.proofs.Math.Bool.{and-true, and-false, or-true, or-false, and-eq-true_iff}
use Rattle.nodes.specs.Sets.{node_limit, has, single, union, inter, lowest, without_node, word_at}
use Rattle.nodes.specs.Bools.{by_lt, by_eq, by_test, test-ext}
use Rattle.nodes.proofs.SetLaws.{has-none, has-below, below-pow, has-ext, has-union, has-inter, has-single, has-without_node, subset-has, has-subset}
use Rattle.nodes.proofs.LowestNode.{lowest-lt, lowest-has, lowest-le}
use Rattle.semantics.specs.Soundness.{In}
use Rattle.semantics.specs.Test.{freely}
use Rattle.free_test.specs.WireTests.{all_of, one_a_node, links_sound, others_met, members_met, free_sound}
use Rattle.free_test.specs.Below.{tests, of_iff, not_iff, eqb-iff, tail-iff, within-iff}
use Rattle.free_test.specs.Loose.{freely-none, none-lowest}

-- ---- connections

-- the clauses on the connections of n nodes
pub record SoundLinks (n : ℕ) (L : ℕ → ℕ) : Type 0 where
  pub few : n ≤ node_limit
  pub links_within : (i : ℕ) → i < n → (j : ℕ) → In j (L i) → j < n
  pub links_zero : (i : ℕ) → n ≤ i → i < node_limit → L i ≡ 0
  pub both_ways : (i j : ℕ) → i < n → j < n → In j (L i) → In i (L j)
  pub not_itself : (i : ℕ) → i < n → In i (L i) → ⊥

-- two ways to read the words of the nodes
abbrev pub Agree : (ℕ → ℕ) → (ℕ → ℕ) → Type 0
Agree K L = (i : ℕ) → i < node_limit → K i ≡ L i

agree-in : (K L : ℕ → ℕ) → Agree K L → (i j : ℕ) → i < node_limit → In j (L i) → In j (K i)
agree-in K L same i j l m = ap (λ (w : ℕ). has w j) (same i l) ∙ m

links-agree : (n : ℕ) (K L : ℕ → ℕ) → Agree K L → Agree L K → SoundLinks n K → SoundLinks n L
links-agree n K L to from s =
    let limit : (i : ℕ) → i < n → i < node_limit = λ i l. omega (arith, s.few) in
    record {
      few = s.few;
      links_within = λ i l j m. s.links_within i l j (agree-in K L to i j (limit i l) m);
      links_zero = λ i l m. from i m ∙ s.links_zero i l m;
      both_ways = λ i j l m h. agree-in L K from j i (limit j m) (s.both_ways i j l m (agree-in K L to i j (limit i l) h));
      not_itself = λ i l h. s.not_itself i l (agree-in K L to i i (limit i l) h);
    }

module _ (links : List ℕ) (n : ℕ) (long : length links ≡ node_limit) where
  links-read : links_sound links n ≡ true → SoundLinks n (word_at links)
  unfolding links_sound
  links-read e =
      let h = simp (within-iff, tail-iff, tests) at e in
      record {
        few = h.0.0.0.1;
        links_within = λ i l. (h.0.0.1 i l).0;
        links_zero = λ i l m. h.0.1 i l (omega arith);
        both_ways = λ i j l m k. sym (h.1 i l j m) ∙ k;
        not_itself = λ i l. (h.0.0.1 i l).1;
      }

  links-test : SoundLinks n (word_at links) → links_sound links n ≡ true
  unfolding links_sound
  links-test s =
      simp (within-iff, tail-iff, tests) (
        (((eq-eqb (length links) node_limit long, s.few), λ i l. (s.links_within i l, s.not_itself i l)), λ i l m. s.links_zero i l (omega arith)),
        λ i l j m. test-ext (has (word_at links i) j) (has (word_at links j) i) (s.both_ways i j l m) (s.both_ways j i m l),
      )

-- the test of connections says its clauses
pub links_sound-iff : (links : List ℕ) (n : ℕ) (L : ℕ → ℕ) → length links ≡ node_limit → Agree (word_at links) L
    → (links_sound links n ≡ true) ↔ SoundLinks n L
links_sound-iff links n L long same = (
  λ e. links-agree n (word_at links) L same (λ i l. sym (same i l)) (links-read links n long e),
  λ s. links-test links n long (links-agree n L (word_at links) (λ i l. sym (same i l)) same s),
)

-- ---- members

-- the test of members says that any two are connected
pub members_met-iff : (links : List ℕ) (set : ℕ) (L : ℕ → ℕ) → length links ≡ node_limit → Agree (word_at links) L → set < 2 ^ node_limit
    → (members_met links set ≡ true) ↔ ((i j : ℕ) → In i set → In j set → i ≢ j → In j (L i))
unfolding members_met
members_met-iff links set L long same fits = (
  λ e i j m k d.
      let l = has-below set node_limit i fits m in
      let h = (of_iff set (others_met links set)).0 ((and-eq-true_iff (one_a_node links) (all_of set (others_met links set))).0 e).1 i l m in
      ap (λ (w : ℕ). has w j) (sym (same i l)) ∙ subset-has (without_node set i) (word_at links i) j h (has-without_node set i j ∙ rw (k, ne_eqb i j d)),
  λ h.
      (and-eq-true_iff (one_a_node links) (all_of set (others_met links set))).1 (
        eq-eqb (length links) node_limit long,
        (of_iff set (others_met links set)).1 (λ i l m.
            has-subset (without_node set i) (word_at links i) (λ j k.
            let both = (and-eq-true_iff (has set j) (not (eqb i j))).0 (sym (has-without_node set i j) ∙ k) in
            ap (λ (w : ℕ). has w j) (same i l) ∙ h i j m both.0 (λ q. (not_iff (eqb i j)).0 both.1 (eq-eqb i j q)))),
      ),
)

-- ---- free normal groups

-- the clauses on the free normal groups of n nodes, where Loose tells which are free normal nodes
pub record SoundFree (n : ℕ) (Loose : ℕ → Type 0) (L F : ℕ → ℕ) : Type 0 where
  pub free_within : (i : ℕ) → i < n → (j : ℕ) → In j (F i) → j < n
  pub free_zero : (i : ℕ) → n ≤ i → i < node_limit → F i ≡ 0
  pub covered : (i : ℕ) → Loose i → In i (F i)
  pub only_free : (i : ℕ) → i < node_limit → (Loose i → ⊥) → F i ≡ 0
  pub own_words : (i j : ℕ) → i < node_limit → In j (F i) → F j ≡ F i
  pub shared : (i j : ℕ) → Loose i → Loose j → i ≢ j → has (F i) j ≡ has (L i) j

has-freely : (loose i w j : ℕ) → has (freely loose i w) j ≡ (has loose i && ((has w j && has loose j) || eqb i j))
has-freely loose i w j = go (has loose i)
  where
    go : (t : Bool) → has (cond t (union (inter w loose) (single i)) 0) j ≡ (t && ((has w j && has loose j) || eqb i j))
    go true = has-union (inter w loose) (single i) j ∙ ap₂ ◌||◌ (has-inter w loose j) (has-single i j)
    go false = has-none j

-- a node of the set 0
not-in_none : (i w : ℕ) → w ≡ 0 → In i w → ⊥
not-in_none i w e m = true≢false (sym m ∙ ap (λ (x : ℕ). has x i) e ∙ has-none i)

-- groups that are as the connections give them
module _ (n loose : ℕ) (L F : ℕ → ℕ) (s : SoundLinks n L) (on_roster : (i : ℕ) → In i loose → i < n)
    (given : (i : ℕ) → i < n → F i ≡ freely loose i (L i)) where
  has-given : (i j : ℕ) → i < n → has (F i) j ≡ (has loose i && ((has (L i) j && has loose j) || eqb i j))
  has-given i j l = ap (λ (w : ℕ). has w j) (given i l) ∙ has-freely loose i (L i) j

  given-own : (i : ℕ) → In i loose → In i (F i)
  given-own i m = has-given i i (on_roster i m) ∙ rw (m, eq-eqb i i refl) (or-true (has (L i) i && true))

  given-shared : (i j : ℕ) → In i loose → In j loose → i ≢ j → has (F i) j ≡ has (L i) j
  given-shared i j m k d = has-given i j (on_roster i m) ∙ rw (m, k, ne_eqb i j d) (or-false (has (L i) j && true) ∙ and-true (has (L i) j))

  -- a member of a group is a free normal node, and so is the node whose group it is
  given-loose : (i j : ℕ) → i < n → In j (F i) → In i loose × In j loose
  given-loose i j l m =
      let both = (and-eq-true_iff (has loose i) ((has (L i) j && has loose j) || eqb i j)).0 (sym (has-given i j l) ∙ m) in (
        both.0,
        ⊎_elim (λ e. rw (← e) both.0)
            (λ d. ((and-eq-true_iff (has (L i) j) (has loose j)).0 (sym (or-false (has (L i) j && has loose j)) ∙ (rw (ne_eqb i j d) at both.1))).1)
            (by_eq i j),
      )

  given-mutual : (i j : ℕ) → i < n → In j (F i) → In i (F j)
  given-mutual i j l m =
      let two = given-loose i j l m in
      ⊎_elim (λ e. rw (← e) (given-own i two.0))
      (λ d. given-shared j i two.1 two.0 (λ e. d (sym e))
      ∙ s.both_ways i j l (on_roster j two.1) (sym (given-shared i j two.0 two.1 d) ∙ m))
      (by_eq i j)

  -- the lowest node of a group with a member
  module _ (i j : ℕ) (l : i < n) (m : In j (F i)) where
    group-fits : F i < 2 ^ node_limit
    group-fits = below-pow (F i) node_limit (λ k p. omega (arith, on_roster k (given-loose i k l p).1, s.few))

    group-some : 0 < F i
    group-some = ⊎_elim (λ lt. absurd (not-in_none j (F i) (omega arith) m)) (λ ge. ge) (by_lt (F i) 1)

    lowest-in : In (lowest (F i)) (F i)
    lowest-in = lowest-has (F i) group-some group-fits

    lowest-on : lowest (F i) < n
    lowest-on = on_roster (lowest (F i)) (given-loose i (lowest (F i)) l lowest-in).1

  -- where each group is in the word of its lowest node, it is in the word of each member: the lowest nodes of the two are the same
  same-group : ((i j : ℕ) → i < n → In j (F i) → F (lowest (F i)) ≡ F i) → (i j : ℕ) → i < n → In j (F i) → F j ≡ F i
  same-group low i j l m =
      let k = on_roster j (given-loose i j l m).1 in
      let back = given-mutual i j l m in
      let a = lowest (F i) in
      let b = lowest (F j) in
      let in-a : In j (F a) = ap (λ (w : ℕ). has w j) (low i j l m) ∙ m in
      let a_in : In a (F j) = given-mutual a j (lowest-on i j l m) in-a in
      let in_b : In a (F b) = ap (λ (w : ℕ). has w a) (low j i k back) ∙ a_in in
      let b-in : In b (F i) = ap (λ (w : ℕ). has w b) (sym (low i j l m)) ∙ given-mutual b a (lowest-on j i k back) in_b in
      let same : b ≡ a = omega (arith, lowest-le (F j) a a_in, lowest-le (F i) b b-in) in
      sym (low j i k back) ∙ ap F same ∙ low i j l m

module _ (links free : List ℕ) (loose n : ℕ) (Loose : ℕ → Type 0) (L F : ℕ → ℕ) (long-links : length links ≡ node_limit)
    (long-free : length free ≡ node_limit) (same-links : Agree (word_at links) L) (same-free : Agree (word_at free) F)
    (tells : (i : ℕ) → In i loose ↔ Loose i) (on_roster : (i : ℕ) → Loose i → i < n) (s : SoundLinks n L) where
  on-roster' : (i : ℕ) → In i loose → i < n
  on-roster' i m = on_roster i ((tells i).0 m)

  limit : (i : ℕ) → i < n → i < node_limit
  limit i l = omega (arith, s.few)

  free-read : free_sound links free loose n ≡ true → SoundFree n Loose L F
  unfolding free_sound
  free-read e =
      let h = simp (tests, eqb-iff, tail-iff) at e in
      let given : (i : ℕ) → i < n → F i ≡ freely loose i (L i) =
      λ i l. sym (same-free i (limit i l)) ∙ h.0.0.1 i l ∙ ap (freely loose i) (same-links i (limit i l)) in
      let zero : (i : ℕ) → n ≤ i → i < node_limit → F i ≡ 0 = λ i l m. sym (same-free i m) ∙ h.0.1 i l (omega arith) in
      let low : (i j : ℕ) → i < n → In j (F i) → F (lowest (F i)) ≡ F i = λ i j l m.
      sym (same-free (lowest (F i)) (limit (lowest (F i)) (lowest-on n loose L F s on-roster' given i j l m)))
      ∙ ap (λ (w : ℕ). word_at free (lowest w)) (sym (same-free i (limit i l))) ∙ h.1 i l ∙ same-free i (limit i l) in
      record {
        free_within = λ i l j m. on-roster' j (given-loose n loose L F s on-roster' given i j l m).1;
        free_zero = zero;
        covered = λ i f. given-own n loose L F s on-roster' given i ((tells i).1 f);
        only_free = λ i l none.
            ⊎_elim (λ on. given i on ∙ freely-none loose i (L i) (λ m. none ((tells i).0 m))) (λ off. zero i off l) (by_lt i n);
        own_words = λ i j l m.
            ⊎_elim (λ on. same-group n loose L F s on-roster' given low i j on m) (λ off. absurd (not-in_none j (F i) (zero i off l) m)) (by_lt i n);
        shared = λ i j f g d. given-shared n loose L F s on-roster' given i j ((tells i).1 f) ((tells j).1 g) d;
      }

  module _ (f : SoundFree n Loose L F) where
    -- the members of a free normal node's group
    due_in : (i k : ℕ) → Loose i → has (F i) k ≡ ((has (L i) k && has loose k) || eqb i k)
    due_in i k p =
        ⊎_elim (λ e. rw (← e) (f.covered i p ∙ sym (rw (eq-eqb i i refl) (or-true (has (L i) i && has loose i)))))
        (λ d. other d (by_test (has loose k)))
        (by_eq i k)
      where
        -- a member is a free normal node: else its word, which is the same, would be zero
        no_member : (has loose k ≡ false) → In k (F i) → ⊥
        no_member out m =
            let kn = f.free_within i (on_roster i p) k m in
            let none : Loose k → ⊥ = λ q. true≢false (sym ((tells k).1 q) ∙ out) in
            let gone : F i ≡ 0 = sym (f.own_words i k (limit i (on_roster i p)) m) ∙ f.only_free k (limit k kn) none in
            not-in_none i (F i) gone (f.covered i p)

        other : i ≢ k → (has loose k ≡ true) ⊎ (has loose k ≡ false) → has (F i) k ≡ ((has (L i) k && has loose k) || eqb i k)
        other d (inl m) = f.shared i k p ((tells k).0 m) d ∙ sym (rw (m, ne_eqb i k d) (or-false (has (L i) k && true) ∙ and-true (has (L i) k)))
        other d (inr m) =
            ⊎_elim (λ q. absurd (no_member m q)) (λ q. q ∙ sym (rw (m, ne_eqb i k d) (or-false (has (L i) k && false) ∙ and-false (has (L i) k))))
            (by_test (has (F i) k))

    due : (i : ℕ) → i < n → F i ≡ freely loose i (L i)
    due i l =
        ⊎_elim (λ m. has-ext (F i) (freely loose i (L i)) (λ k. due_in i k ((tells i).0 m) ∙ sym (has-freely loose i (L i) k ∙ rw m)))
        (λ m.
        let none : In i loose → ⊥ = λ q. true≢false (sym q ∙ m) in
        f.only_free i (limit i l) (λ q. none ((tells i).1 q)) ∙ sym (freely-none loose i (L i) none))
        (by_test (has loose i))

    -- a word is that of its lowest node
    due-low : (i : ℕ) → i < n → word_at free (lowest (word_at free i)) ≡ word_at free i
    due-low i l = ⊎_elim (λ e. none-lowest free long-free i e) (λ d. some_word d) (by_eq (word_at free i) 0)
      where
        some_word : word_at free i ≢ 0 → word_at free (lowest (word_at free i)) ≡ word_at free i
        some_word d =
            let here = same-free i (limit i l) in
            let fits : F i < 2 ^ node_limit = below-pow (F i) node_limit (λ k m. limit k (f.free_within i l k m)) in
            let some : 0 < F i = omega arith in
            let m = lowest-has (F i) some fits in
            ap (λ (w : ℕ). word_at free (lowest w)) here ∙ same-free (lowest (F i)) (lowest-lt (F i) some fits)
            ∙ f.own_words i (lowest (F i)) (limit i l) m ∙ sym here

    free-test : free_sound links free loose n ≡ true
    unfolding free_sound
    free-test =
        simp (tests, eqb-iff, tail-iff) (
          (
            (((long-links, long-free), s.few), λ i l. same-free i (limit i l) ∙ due i l ∙ ap (freely loose i) (sym (same-links i (limit i l)))),
            λ i l m. same-free i (omega arith) ∙ f.free_zero i l (omega arith),
          ),
          due-low,
        )

  -- with sound connections the test of free normal groups says its clauses
  pub free_sound-iff : (free_sound links free loose n ≡ true) ↔ SoundFree n Loose L F
  free_sound-iff = (free-read, free-test)
