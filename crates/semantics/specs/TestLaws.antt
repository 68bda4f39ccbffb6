-- What the tests on lists say, and the tests of an s_group, of connections and of free groups. Assumes nothing.
use Rattle.std.specs.Prelude.{◌≡◌, refl, ◌↔◌, ◌≢◌, Bool, true, false, not, ◌&&◌, ◌||◌, cond, List, [], ◌∷◌, map, ℕ, zero, suc, ◌+◌, ◌^◌, ◌<◌, eqb, length, get_or}
use Rattle.std.proofs.Common.{sym, ap, ap₂, ◌∙◌, subst, not-suc-le-zero, zero-add, add-zero, suc-add, add-suc, arith, eqb-true, eq-eqb, ne_eqb, ltb-true, lt-ltb, leb-false}
use Rattle.std.proofs.lemmas.Bool.{false≢true, eqb-false, lt-leb}
use Rattle.std.proofs.Math.Bool.{and-eq-true_iff}
use Rattle.nodes.specs.Sets.{has, single, union, inter, diff, subset, beyond}
use Rattle.nodes.proofs.SetLaws.{has-none, has-union, has-inter, has-single, has-without_node, subset-has, has-subset}
use Rattle.entries.specs.Storage.{sound_entries-iff}
use Rattle.semantics.specs.State.{Group}
use Rattle.semantics.specs.Test.{trues, alli, each, ascending, same, group_tests, sound_group, linked, met, freely}
use Rattle.semantics.specs.Regular.{Every, Rising, RegularGroup}
use Rattle.semantics.specs.Truth.{not_iff, cond-iff}
use Rattle.semantics.specs.Places.{each-place}

-- ---- lists

-- where all hold, each does
pub trues-at : (bs : List Bool) → trues bs ≡ true → (k : ℕ) → get_or bs k true ≡ true
trues-at [] h k = refl
trues-at (b ∷ bs) h zero = ((and-eq-true_iff b (trues bs)).0 h).0
trues-at (b ∷ bs) h (suc k) = trues-at bs ((and-eq-true_iff b (trues bs)).0 h).1 k

-- one more that holds
infixr 30 ◌also◌
pub ◌also◌ : {x y : Bool} → x ≡ true → y ≡ true → x && y ≡ true
◌also◌ {x} {y} p q = (and-eq-true_iff x y).1 (p, q)

-- the test at each place, the first place being k
alli-from : (p : ℕ → ℕ → Bool) (k : ℕ) (l : List ℕ) → (alli p k l ≡ true) ↔ ((i : ℕ) → i < length l → p (k + i) (get_or l i 0) ≡ true)
alli-from p k [] = (λ h i n. absurd (not-suc-le-zero n), λ h. refl)
alli-from p k (x ∷ xs) = (
  λ h.
      let q = (and-eq-true_iff (p k x) (alli p (suc k) xs)).0 h in
      each-place (length xs) (λ i. p (k + i) (get_or (x ∷ xs) i 0) ≡ true) (rw add-zero q.0)
      (λ i n. rw (add-suc k i, ← suc-add k i) ((alli-from p (suc k) xs).0 q.1 i n)),
  λ h.
      (and-eq-true_iff (p k x) (alli p (suc k) xs)).1
      (rw add-zero at (h 0 (omega arith)), (alli-from p (suc k) xs).1 (λ i n. rw (suc-add k i, ← add-suc k i) (h (suc i) (omega arith)))),
)

pub alli-iff : (p : ℕ → ℕ → Bool) (l : List ℕ) → (alli p 0 l ≡ true) ↔ ((i : ℕ) → i < length l → p i (get_or l i 0) ≡ true)
alli-iff p l = (
  λ h i n. subst (λ (j : ℕ). p j (get_or l i 0) ≡ true) (zero-add i) ((alli-from p 0 l).0 h i n),
  λ h. (alli-from p 0 l).1 (λ i n. subst (λ (j : ℕ). p j (get_or l i 0) ≡ true) (sym (zero-add i)) (h i n)),
)

pub each-iff : (p : Group → Bool) (gs : List Group) → (each p gs ≡ true) ↔ Every (λ g. p g ≡ true) gs
each-iff p [] = (λ h. tt, λ h. refl)
each-iff p (g ∷ gs) = (
  λ h. let q = (and-eq-true_iff (p g) (each p gs)).0 h in (q.0, (each-iff p gs).0 q.1),
  λ h. (and-eq-true_iff (p g) (each p gs)).1 (h.0, (each-iff p gs).1 h.1),
)

pub same-iff : (a b : List ℕ) → (same a b ≡ true) ↔ (a ≡ b)
same-iff a b = (there a b, λ e. subst (λ (l : List ℕ). same a l ≡ true) e (self a))
  where
    there : (a b : List ℕ) → same a b ≡ true → a ≡ b
    there [] [] h = refl
    there [] (y ∷ b) h = absurd (false≢true h)
    there (x ∷ a) [] h = absurd (false≢true h)
    there (x ∷ a) (y ∷ b) h = let q = (and-eq-true_iff (eqb x y) (same a b)).0 h in ap₂ ◌∷◌ (eqb-true x y q.0) (there a b q.1)

    self : (a : List ℕ) → same a a ≡ true
    self [] = refl
    self (x ∷ a) = (and-eq-true_iff (eqb x x) (same a a)).1 (eq-eqb x x refl, self a)

-- ---- s_groups

pub ascending-iff : (b : ℕ) (gs : List Group) → (ascending b (map (λ g. g.name) gs) ≡ true) ↔ Rising b gs
ascending-iff b [] = (λ h. tt, λ h. refl)
ascending-iff b (g ∷ gs) = (
  λ h. let q = (and-eq-true_iff _ _).0 h in (ltb-true b g.name q.0, (ascending-iff g.name gs).0 q.1),
  λ h. (and-eq-true_iff _ _).1 (lt-ltb b g.name h.0, (ascending-iff g.name gs).1 h.1),
)

-- a set of nodes on the roster
pub roster-iff : (w N : ℕ) → (not (beyond w N) ≡ true) ↔ (w < 2 ^ N)
roster-iff w N = (λ h. leb-false (2 ^ N) w ((not_iff _).0 h), λ h. (not_iff _).1 (lt-leb (2 ^ N) w h))

pub group-iff : (cap N : ℕ) (g : Group) → (sound_group cap N g ≡ true) ↔ RegularGroup cap N g
unfolding sound_group
group-iff cap N g = (
  λ h.
      let q : (k : ℕ) → get_or (group_tests cap N g) k true ≡ true = trues-at (group_tests cap N g) h in
      record {
        small = ltb-true _ _ (q 0);
        some_member = eqb-false _ _ ((not_iff _).0 (q 1));
        on_roster = (roster-iff _ _).0 (q 2);
        names_sound = (sound_entries-iff cap N g.names).0 (q 3);
      },
  λ r.
      lt-ltb _ _ r.small also (not_iff _).1 (ne_eqb _ _ r.some_member) also (roster-iff _ _).1 r.on_roster
      also (sound_entries-iff cap N g.names).1 r.names_sound also refl,
)

-- ---- connections and free groups

pub linked-iff : (N i l : ℕ) → (linked N i l ≡ true) ↔ ((l < 2 ^ N) × (has l i ≡ false))
linked-iff N i l = (
  λ h. let q = (and-eq-true_iff _ _).0 h in ((roster-iff l N).0 q.0, (not_iff _).0 q.1),
  λ h. (and-eq-true_iff _ _).1 ((roster-iff l N).1 h.0, (not_iff _).1 h.1),
)

-- every member that has a word is connected with the others
pub met-iff : (links : List ℕ) (g : Group)
    → (met links g ≡ true)
    ↔ ((i j : ℕ) → i < length links → has g.members i ≡ true → has g.members j ≡ true → i ≢ j → has (get_or links i 0) j ≡ true)
met-iff links g = (
  λ h i j n a b d.
      subset-has (diff g.members (single i)) (get_or links i 0) j
      ((cond-iff _ _).0 ((alli-iff (λ u l. cond (has g.members u) (subset (diff g.members (single u)) l) true) links).0 h i n) a)
      (has-without_node g.members i j ∙ rw (b, ne_eqb i j d)),
  λ h.
      (alli-iff (λ u l. cond (has g.members u) (subset (diff g.members (single u)) l) true) links).1
      (λ i n. (cond-iff _ _).1 (λ a. has-subset (diff g.members (single i)) (get_or links i 0) (λ j m.
      let q = (and-eq-true_iff (has g.members j) (not (eqb i j))).0 (sym (has-without_node g.members i j) ∙ m) in
      h i j n a q.0 (eqb-false i j ((not_iff _).0 q.1))))),
)

freed : (x y e l : Bool) → (e ≡ true → y ≡ x) → x && ((l && y) || e) ≡ x && (y && (e || l))
freed true true true true h = refl
freed true true true false h = refl
freed true true false true h = refl
freed true true false false h = refl
freed true false true l h = absurd (false≢true (h refl))
freed true false false true h = refl
freed true false false false h = refl
freed false y e l h = refl

pub has-freely : (F i l j : ℕ) → has (freely F i l) j ≡ has F i && (has F j && (eqb i j || has l j))
has-freely F i l j = go (has F i) ∙ freed (has F i) (has F j) (eqb i j) (has l j) (λ e. ap (has F) (sym (eqb-true i j e)))
  where
    go : (x : Bool) → has (cond x (union (inter l F) (single i)) 0) j ≡ x && ((has l j && has F j) || eqb i j)
    go true = rw (has-union, has-inter, has-single)
    go false = has-none j
