-- A state passes the test exactly where it is regular. Assumes nothing.
use Rattle.std.specs.Prelude.{◌≡◌, refl, ◌↔◌, true, false, ◌&&◌, ◌||◌, cond, List, ℕ, ◌^◌, ◌≤◌, ◌<◌, eqb, length, get_or}
use Rattle.std.proofs.Common.{sym, ap, ◌∙◌, ⊎_elim, true≢false, arith, eqb-true, eq-eqb, leb-true, le-leb}
use Rattle.std.specs.Bool.{beq}
use Rattle.std.proofs.Math.Bool.{and-eq-true_iff}
use Rattle.std.proofs.Math.ListN.{get_or-eq_default}
use Rattle.nodes.specs.Sets.{node_limit, has}
use Rattle.nodes.specs.Bools.{by_lt}
use Rattle.nodes.proofs.SetLaws.{has-none, has-below, has-ext, below-pow}
use Rattle.semantics.specs.State.{Group, State, free_nodes}
use Rattle.semantics.specs.Test.{alli, each, linked, met, freely, sound_group, state_tests, sound_state}
use Rattle.semantics.specs.Regular.{Met, loose, RegularGroup, Regular}
use Rattle.semantics.specs.Truth.{unless, cond-iff, beq-iff}
use Rattle.semantics.specs.Places.{group_at, every-iff}
use Rattle.semantics.specs.FreeGroupsOfNodes.{loose-on_roster}
use Rattle.semantics.specs.TestLaws.{trues-at, ◌also◌, alli-iff, each-iff, ascending-iff, roster-iff, group-iff, linked-iff, met-iff, has-freely}

-- past the end of a list there is no node
pub has-past : (l : List ℕ) (i j : ℕ) → length l ≤ i → has (get_or l i 0) j ≡ false
has-past l i j h = rw (get_or-eq_default l 0 h) (has-none j)

-- a node is found in a list's words only
pub has-place : (l : List ℕ) (i j : ℕ) → has (get_or l i 0) j ≡ true → i < length l
has-place l i j h = ⊎_elim (λ (n : i < length l). n) (λ (n : length l ≤ i). absurd (true≢false (sym h ∙ has-past l i j n))) (by_lt i (length l))

module _ (st : State) (small : st.size ≤ node_limit) (links_long : length st.links ≡ node_limit) (free_long : length st.free ≡ node_limit) where
  -- ---- connections

  within_of : alli (linked st.size) 0 st.links ≡ true → (i j : ℕ) → has (get_or st.links i 0) j ≡ true → j < st.size
  within_of h i j k = has-below _ st.size j ((linked-iff st.size i _).0 ((alli-iff (linked st.size) st.links).0 h i (has-place st.links i j k))).0 k

  no_self-of : alli (linked st.size) 0 st.links ≡ true → (i : ℕ) → has (get_or st.links i 0) i ≡ false
  no_self-of h i =
      unless _ (λ k. true≢false (sym k ∙ ((linked-iff st.size i _).0 ((alli-iff (linked st.size) st.links).0 h i (has-place st.links i i k))).1))

  both_ways-of : ((i j : ℕ) → has (get_or st.links i 0) j ≡ true → j < st.size)
      → alli (λ i l. alli (λ j k. beq (has l j) (has k i)) 0 st.links) 0 st.links ≡ true
      → (i j : ℕ) → has (get_or st.links i 0) j ≡ has (get_or st.links j 0) i
  both_ways-of w h i j = ⊎_elim (λ (p : i < node_limit). ⊎_elim (near p) (far i j) (by_lt j node_limit)) (λ (p : node_limit ≤ i). sym (far j i p)) (by_lt i node_limit)
    where
      near : i < node_limit → j < node_limit → has (get_or st.links i 0) j ≡ has (get_or st.links j 0) i
      near p q =
          (beq-iff _ _).0 ((alli-iff (λ v k. beq (has (get_or st.links i 0) v) (has k i)) st.links).0
          ((alli-iff (λ u l. alli (λ v k. beq (has l v) (has k u)) 0 st.links) st.links).0 h i (omega arith)) j (omega arith))

      far : (a b : ℕ) → node_limit ≤ b → has (get_or st.links a 0) b ≡ has (get_or st.links b 0) a
      far a b k = unless _ (λ e. omega (arith, w a b e)) ∙ sym (has-past st.links b a (omega arith))

  met_of : (g : Group) → g.members < 2 ^ st.size → met st.links g ≡ true → Met st.links g
  met_of g r h i j a b d = (met-iff st.links g).0 h i j (omega (arith, has-below g.members st.size i r a)) a b d

  -- ---- free groups

  frees_of : alli (λ i f. eqb f (freely (free_nodes st) i (get_or st.links i 0))) 0 st.free ≡ true
      → (i j : ℕ) → has (get_or st.free i 0) j ≡ loose st i && (loose st j && (eqb i j || has (get_or st.links i 0) j))
  frees_of h i j = ⊎_elim near far (by_lt i node_limit)
    where
      near : i < node_limit → has (get_or st.free i 0) j ≡ loose st i && (loose st j && (eqb i j || has (get_or st.links i 0) j))
      near p =
          ap (λ (x : ℕ). has x j) (eqb-true _ _ ((alli-iff (λ u f. eqb f (freely (free_nodes st) u (get_or st.links u 0))) st.free).0 h i (omega arith)))
          ∙ has-freely (free_nodes st) i (get_or st.links i 0) j

      far : node_limit ≤ i → has (get_or st.free i 0) j ≡ loose st i && (loose st j && (eqb i j || has (get_or st.links i 0) j))
      far p = has-past st.free i j (omega arith) ∙ sym (rw (unless (loose st i) (λ e. omega (arith, loose-on_roster st i e))))

  classes-of : ((i j : ℕ) → has (get_or st.free i 0) j ≡ loose st i && (loose st j && (eqb i j || has (get_or st.links i 0) j)))
      → alli (λ i f. alli (λ j h. cond (has f j) (eqb f h) true) 0 st.free) 0 st.free ≡ true
      → (i j : ℕ) → has (get_or st.free i 0) j ≡ true → get_or st.free i 0 ≡ get_or st.free j 0
  classes-of f h i j k =
      let a : loose st j ≡ true = ((and-eq-true_iff _ _).0 ((and-eq-true_iff (loose st i) _).0 (sym (f i j) ∙ k)).1).0 in
      eqb-true _ _ ((cond-iff _ _).0
      ((alli-iff (λ v u. cond (has (get_or st.free i 0) v) (eqb (get_or st.free i 0) u) true) st.free).0
      ((alli-iff (λ u x. alli (λ v y. cond (has x v) (eqb x y) true) 0 st.free) st.free).0 h i (has-place st.free i j k)) j
      (omega (arith, loose-on_roster st j a))) k)

-- ---- both ways

test-to : (cap : ℕ) (st : State) → sound_state cap st ≡ true → Regular cap st
unfolding sound_state
test-to cap st h =
    let q : (k : ℕ) → get_or (state_tests cap st) k true ≡ true = trues-at (state_tests cap st) h in
    let n : st.size ≤ node_limit = leb-true _ _ (q 1) in
    let a : length st.links ≡ node_limit = eqb-true _ _ (q 6) in
    let b : length st.free ≡ node_limit = eqb-true _ _ (q 7) in
    let g : (i : ℕ) → i < length st.groups → RegularGroup cap st.size (group_at st.groups i) =
    λ i l. (group-iff cap st.size _).0 ((every-iff (λ x. sound_group cap st.size x ≡ true) st.groups).0 ((each-iff _ st.groups).0 (q 5)) i l) in
    let w : (i j : ℕ) → has (get_or st.links i 0) j ≡ true → j < st.size = within_of st n a b (q 8) in
    let f : (i j : ℕ) → has (get_or st.free i 0) j ≡ loose st i && (loose st j && (eqb i j || has (get_or st.links i 0) j)) =
    frees_of st n a b (q 11) in
    record {
      size_low = leb-true _ _ (q 0);
      size_high = n;
      hidden_in = (roster-iff _ _).0 (q 2);
      groups_few = leb-true _ _ (q 3);
      rising = (ascending-iff 0 st.groups).0 (q 4);
      each = (every-iff _ st.groups).1 g;
      links_long = a;
      free_long = b;
      within = w;
      met = (every-iff _ st.groups).1 (λ i l. met_of st n a b (group_at st.groups i) (g i l).on_roster
          ((every-iff (λ x. met st.links x ≡ true) st.groups).0 ((each-iff _ st.groups).0 (q 10)) i l));
      wires = record {
        both_ways = both_ways-of st n a b w (q 9);
        no_self = no_self-of st n a b (q 8);
        frees = f;
        classes = classes-of st n a b f (q 12);
      };
    }

to-test : (cap : ℕ) (st : State) → Regular cap st → sound_state cap st ≡ true
unfolding sound_state
to-test cap st r =
    le-leb _ _ r.size_low
    also le-leb _ _ r.size_high
    also (roster-iff _ _).1 r.hidden_in
    also le-leb _ _ r.groups_few
    also (ascending-iff 0 st.groups).1 r.rising
    also (each-iff _ st.groups).1 ((every-iff _ st.groups).1 (λ i l. (group-iff cap st.size _).1 ((every-iff _ st.groups).0 r.each i l)))
    also eq-eqb _ _ r.links_long
    also eq-eqb _ _ r.free_long
    also (alli-iff (linked st.size) st.links).1 (λ i l. (linked-iff st.size i _).1 (below-pow _ st.size (r.within i), r.wires.no_self i))
    also (alli-iff (λ i l. alli (λ j k. beq (has l j) (has k i)) 0 st.links) st.links).1
    (λ i l. (alli-iff (λ j k. beq (has (get_or st.links i 0) j) (has k i)) st.links).1 (λ j m. (beq-iff _ _).1 (r.wires.both_ways i j)))
    also (each-iff _ st.groups).1 ((every-iff _ st.groups).1 (λ i l. (met-iff st.links (group_at st.groups i)).1 (λ u v n. (every-iff _ st.groups).0 r.met i l u v)))
    also (alli-iff (λ i f. eqb f (freely (free_nodes st) i (get_or st.links i 0))) st.free).1
    (λ i l. eq-eqb _ _ (has-ext _ _ (λ j. r.wires.frees i j ∙ sym (has-freely (free_nodes st) i (get_or st.links i 0) j))))
    also (alli-iff (λ i f. alli (λ j h. cond (has f j) (eqb f h) true) 0 st.free) st.free).1
    (λ i l. (alli-iff (λ j h. cond (has (get_or st.free i 0) j) (eqb (get_or st.free i 0) h) true) st.free).1 (λ j m. (cond-iff _ _).1 (λ e. eq-eqb _ _ (r.wires.classes i j e))))
    also refl

pub state-iff : (cap : ℕ) (st : State) → (sound_state cap st ≡ true) ↔ Regular cap st
state-iff cap st = (test-to cap st, to-test cap st)
