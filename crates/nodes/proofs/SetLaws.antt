-- The laws of sets of nodes: which nodes each set has, how large it is as a number, how the operations go together, subsets.
-- A law is named by its left side, read from left to right as between signs: `diff-union` is of (a ∖ b) ∪ b. Assumes nothing.
use Rattle.std.specs.Prelude.{◌≡◌, refl, ◌⊎◌, Bool, true, false, not, ◌&&◌, ◌||◌, List, [], ◌∷◌, ◌++◌, ℕ, zero, suc, ◌+◌, ◌-◌, ◌*◌, ◌^◌, ◌≤◌, ◌<◌, min, max, eqb, ltb, length, take}
use Rattle.std.proofs.Common.{sym, ap, ◌∙◌, inl, inr, ⊎_elim, true≢false, mod-lt, mod-eq_of_lt, add-one, arith, pow_pos, take-suc, eq-eqb, eqb-true, ne_eqb, lt-ltb, le-ltb, le-leb}
use Rattle.std.proofs.Math.Bool.{and-false, or-true, and-eq-true_iff}
use Rattle.std.proofs.lemmas.Nat.{and_le_l, and_le_r, and_mask, or_lt, or_shifted}
use Rattle.std.proofs.lemmas.Bool.{lt-leb}
use Rattle.nodes.specs.Sets.{node_limit, bit, has, empty, single, roster, union, inter, diff, with_node, without_node, subset, beyond}
use Rattle.nodes.specs.Sets.{word_at, union_all, some_has}
use Rattle.nodes.specs.Bools.{by_lt, by_eq, by_test, test-ext, and-follows}
use Rattle.nodes.specs.Digits.{bit-lt, bit-above, bit-none, bit-ext, bit-union, bit-inter, bit-diff, bit_single, bit_single-other, bit-roster, bit-roster-above}

-- ---- which nodes a set has

-- what holds of the digits 0 and 1 holds of every two digits
digits-ind : (P : ℕ → ℕ → Type 0) → P 0 0 → P 0 1 → P 1 0 → P 1 1 → (x y : ℕ) → x < 2 → y < 2 → P x y
digits-ind P a b c d zero zero p q = a
digits-ind P a b c d zero (suc zero) p q = b
digits-ind P a b c d zero (suc (suc y)) p q = absurd (omega arith)
digits-ind P a b c d (suc zero) zero p q = c
digits-ind P a b c d (suc zero) (suc zero) p q = d
digits-ind P a b c d (suc zero) (suc (suc y)) p q = absurd (omega arith)
digits-ind P a b c d (suc (suc x)) y p q = absurd (omega arith)

at-digits : (a b i : ℕ) (P : ℕ → ℕ → Type 0) → P 0 0 → P 0 1 → P 1 0 → P 1 1 → P (bit a i) (bit b i)
at-digits a b i P p q r s = digits-ind P p q r s (bit a i) (bit b i) (bit-lt a i) (bit-lt b i)

has_of : (w i : ℕ) {d : ℕ} → bit w i ≡ d → has w i ≡ eqb d 1
has_of w i e = ap (λ (x : ℕ). eqb x 1) e

pub has-union : (a b i : ℕ) → has (union a b) i ≡ has a i || has b i
has-union a b i =
    has_of (union a b) i (bit-union a b i) ∙ at-digits a b i (λ (x y : ℕ). eqb (max x y) 1 ≡ eqb x 1 || eqb y 1) refl refl refl refl

pub has-inter : (a b i : ℕ) → has (inter a b) i ≡ has a i && has b i
has-inter a b i =
    has_of (inter a b) i (bit-inter a b i) ∙ at-digits a b i (λ (x y : ℕ). eqb (min x y) 1 ≡ eqb x 1 && eqb y 1) refl refl refl refl

pub has_diff : (a b i : ℕ) → has (diff a b) i ≡ has a i && not (has b i)
has_diff a b i =
    has_of (diff a b) i (bit-diff a b i) ∙ at-digits a b i (λ (x y : ℕ). eqb (x - y) 1 ≡ eqb x 1 && not (eqb y 1)) refl refl refl refl

pub has-single : (i j : ℕ) → has (single i) j ≡ eqb i j
has-single i j =
    ⊎_elim (λ e. ap (λ (k : ℕ). has (single i) k) (sym e) ∙ has_of (single i) i (bit_single i) ∙ sym (eq-eqb i j e))
    (λ n. has_of (single i) j (bit_single-other i j n) ∙ sym (ne_eqb i j n))
    (by_eq i j)

pub has-roster : (n i : ℕ) → has (roster n) i ≡ ltb i n
has-roster n i =
    ⊎_elim (λ l. has_of (roster n) i (bit-roster n i l) ∙ sym (lt-ltb i n l))
    (λ l. has_of (roster n) i (bit-roster-above n i l) ∙ sym (le-ltb i n l))
    (by_lt i n)

-- a set below 2^n has no node from n on
pub has_above : (w n i : ℕ) → w < 2 ^ n → n ≤ i → has w i ≡ false
has_above w n i h l = has_of w i (bit-above w n i h l)

pub has-none : (i : ℕ) → has 0 i ≡ false
has-none i = has_above 0 0 i (omega arith) (omega arith)

-- a member of a set below 2^n is below n
pub has-below : (w n i : ℕ) → w < 2 ^ n → has w i ≡ true → i < n
has-below w n i h m = ⊎_elim (λ l. l) (λ l. absurd (true≢false (sym m ∙ has_above w n i h l))) (by_lt i n)

-- equal members: equal sets
pub has-ext : (a b : ℕ) → ((i : ℕ) → has a i ≡ has b i) → a ≡ b
has-ext a b e = bit-ext a b (λ i. same i (e i))
  where
    same : (i : ℕ) → has a i ≡ has b i → bit a i ≡ bit b i
    same i =
        at-digits a b i (λ (x y : ℕ). eqb x 1 ≡ eqb y 1 → x ≡ y)
        (λ h. refl) (λ h. absurd (true≢false (sym h))) (λ h. absurd (true≢false h)) (λ h. refl)

-- a set with all members below n is below 2^n
pub below-pow : (w n : ℕ) → ((i : ℕ) → has w i ≡ true → i < n) → w < 2 ^ n
unfolding inter
below-pow w n h = omega (arith, and_mask w n, mod-lt w (pow_pos n), has-ext (inter w (roster n)) w same)
  where
    same : (i : ℕ) → has (inter w (roster n)) i ≡ has w i
    same i = has-inter w (roster n) i ∙ and-follows (has w i) (has (roster n) i) (λ m. has-roster n i ∙ lt-ltb i n (h i m))

pub with_node-in : (w i : ℕ) → i < node_limit → with_node w i ≡ union w (single i)
with_node-in w i l = rw (lt-ltb i node_limit l)

pub has-with_node : (w i j : ℕ) → i < node_limit → has (with_node w i) j ≡ has w j || eqb i j
has-with_node w i j l = rw (with_node-in w i l, has-union, has-single)

pub has-without_node : (w i j : ℕ) → has (without_node w i) j ≡ has w j && not (eqb i j)
has-without_node w i j = rw (has_diff, has-single)

-- the union of a list has what some word of the list has
pub has_union_all : (ws : List ℕ) (i : ℕ) → has (union_all ws) i ≡ some_has ws i
unfolding union_all
has_union_all [] i = has-none i
has_union_all (w ∷ ws) i = has-union w (union_all ws) i ∙ ap (λ (t : Bool). has w i || t) (has_union_all ws i)

-- the same, by the word's place
pub union_all-in : (ws : List ℕ) (k i : ℕ) → has (word_at ws k) i ≡ true → has (union_all ws) i ≡ true
union_all-in ws k i h = has_union_all ws i ∙ at ws k h
  where
    at : (ws : List ℕ) (k : ℕ) → has (word_at ws k) i ≡ true → some_has ws i ≡ true
    at [] k h = sym (has-none i) ∙ h
    at (w ∷ ws) zero h = ap (λ (t : Bool). t || some_has ws i) h
    at (w ∷ ws) (suc k) h = ap (λ (t : Bool). has w i || t) (at ws k h) ∙ or-true (has w i)

pub union_all_out : (ws : List ℕ) (i : ℕ) → has (union_all ws) i ≡ true → (k : ℕ) × (k < length ws) × (has (word_at ws k) i ≡ true)
union_all_out ws i h = at ws (sym (has_union_all ws i) ∙ h)
  where
    at : (ws : List ℕ) → some_has ws i ≡ true → (k : ℕ) × (k < length ws) × (has (word_at ws k) i ≡ true)
    at [] h = absurd (true≢false (sym h))
    at (w ∷ ws) h = go (at ws) (has w i) refl h
      where
        go : (some_has ws i ≡ true → (k : ℕ) × (k < length ws) × (has (word_at ws k) i ≡ true))
            → (t : Bool) → has w i ≡ t → t || some_has ws i ≡ true → (k : ℕ) × (k < suc (length ws)) × (has (word_at (w ∷ ws) k) i ≡ true)
        go ih true m h = (0, omega arith, m)
        go ih false m h = let q = ih h in (suc q.0, omega (arith, q.1), q.2)

-- ---- the algebra, each law from the digits

pub union_comm : (a b : ℕ) → union a b ≡ union b a
union_comm a b = bit-ext _ _ (λ i. simp bit-union (omega arith))

pub union_assoc : (a b c : ℕ) → union (union a b) c ≡ union a (union b c)
union_assoc a b c = bit-ext _ _ (λ i. simp bit-union (omega arith))

pub union_right_comm : (a b c : ℕ) → union (union a b) c ≡ union (union a c) b
union_right_comm a b c = bit-ext _ _ (λ i. simp bit-union (omega arith))

pub union_self : (a : ℕ) → union a a ≡ a
union_self a = bit-ext _ _ (λ i. simp bit-union (omega arith))

pub union-none : (a : ℕ) → union a 0 ≡ a
union-none a = bit-ext _ _ (λ i. simp (bit-union, bit-none) (omega arith))

pub none-union : (a : ℕ) → union 0 a ≡ a
none-union a = bit-ext _ _ (λ i. simp (bit-union, bit-none) (omega arith))

pub inter_comm : (a b : ℕ) → inter a b ≡ inter b a
inter_comm a b = bit-ext _ _ (λ i. simp bit-inter (omega arith))

pub inter_assoc : (a b c : ℕ) → inter (inter a b) c ≡ inter a (inter b c)
inter_assoc a b c = bit-ext _ _ (λ i. simp bit-inter (omega arith))

pub inter_self : (a : ℕ) → inter a a ≡ a
inter_self a = bit-ext _ _ (λ i. simp bit-inter (omega arith))

pub inter-none : (a : ℕ) → inter a 0 ≡ 0
inter-none a = bit-ext _ _ (λ i. simp (bit-inter, bit-none) (omega arith))

pub none-inter : (a : ℕ) → inter 0 a ≡ 0
none-inter a = bit-ext _ _ (λ i. simp (bit-inter, bit-none) (omega arith))

pub diff-none : (a : ℕ) → diff 0 a ≡ 0
diff-none a = bit-ext _ _ (λ i. simp (bit-diff, bit-none) (omega arith))

pub diff-by-none : (a : ℕ) → diff a 0 ≡ a
diff-by-none a = bit-ext _ _ (λ i. simp (bit-diff, bit-none) (omega arith))

pub diff-self : (a : ℕ) → diff a a ≡ 0
diff-self a = bit-ext _ _ (λ i. simp (bit-diff, bit-none) (omega arith))

pub diff-right-comm : (a b c : ℕ) → diff (diff a b) c ≡ diff (diff a c) b
diff-right-comm a b c = bit-ext _ _ (λ i. simp bit-diff (omega arith))

pub diff-diff : (a b c : ℕ) → diff (diff a b) c ≡ diff a (union b c)
diff-diff a b c = bit-ext _ _ (λ i. simp (bit-diff, bit-union) (omega arith))

pub diff-union : (a b : ℕ) → union (diff a b) b ≡ union a b
diff-union a b = bit-ext _ _ (λ i. simp (bit-union, bit-diff) (omega arith))

pub diff-inter : (a b : ℕ) → inter (diff a b) b ≡ 0
diff-inter a b = bit-ext _ _ (λ i. simp (bit-inter, bit-diff, bit-none) (omega arith))

pub union-diff : (a b c : ℕ) → diff (union a b) c ≡ union (diff a c) (diff b c)
union-diff a b c = bit-ext _ _ (λ i. simp (bit-diff, bit-union) (omega arith))

pub inter-diff : (a b c : ℕ) → inter a (diff b c) ≡ diff (inter a b) c
inter-diff a b c = bit-ext _ _ (λ i. simp (bit-inter, bit-diff) (omega arith))

pub inter-union : (a b c : ℕ) → inter a (union b c) ≡ union (inter a b) (inter a c)
inter-union a b c = bit-ext _ _ (λ i. simp (bit-inter, bit-union) (omega arith))

pub union-inter : (a b c : ℕ) → union a (inter b c) ≡ inter (union a b) (union a c)
union-inter a b c = bit-ext _ _ (λ i. simp (bit-inter, bit-union) (omega arith))

pub union-absorb : (a b : ℕ) → union a (inter a b) ≡ a
union-absorb a b = bit-ext _ _ (λ i. simp (bit-inter, bit-union) (omega arith))

pub inter-absorb : (a b : ℕ) → inter a (union a b) ≡ a
inter-absorb a b = bit-ext _ _ (λ i. simp (bit-inter, bit-union) (omega arith))

pub union_all-append : (xs ys : List ℕ) → union_all (xs ++ ys) ≡ union (union_all xs) (union_all ys)
unfolding union_all
union_all-append [] ys = sym (none-union (union_all ys))
union_all-append (x ∷ xs) ys = ap (union x) (union_all-append xs ys) ∙ sym (union_assoc x (union_all xs) (union_all ys))

-- one word more
pub union_all-take : (ws : List ℕ) (i : ℕ) → i < length ws → union (union_all (take i ws)) (word_at ws i) ≡ union_all (take (i + 1) ws)
unfolding union_all
union_all-take ws i l =
    sym (rw (add-one, take-suc ws i 0) (union_all-append (take i ws) (word_at ws i ∷ []) ∙ ap (union (union_all (take i ws))) (union-none (word_at ws i))))

-- ---- how large a set is, as a number

pub union-above : (n w : ℕ) → w < 2 ^ n → union (single n) w ≡ single n + w
unfolding union
union-above n w p = let e : 2 ^ n ≡ 1 * 2 ^ n = omega arith in rw e (or_shifted 1 n w p)

pub union-lt : (n a b : ℕ) → a < 2 ^ n → b < 2 ^ n → union a b < 2 ^ n
unfolding union
union-lt n a b p q = or_lt n a b p q

pub inter-le-l : (a b : ℕ) → inter a b ≤ a
unfolding inter
inter-le-l a b = and_le_l a b

pub inter-le-r : (a b : ℕ) → inter a b ≤ b
unfolding inter
inter-le-r a b = and_le_r a b

pub diff-le : (a b : ℕ) → diff a b ≤ a
unfolding diff
diff-le a b = omega arith

pub union_all-lt : (n : ℕ) (ws : List ℕ) → ((i : ℕ) → word_at ws i < 2 ^ n) → union_all ws < 2 ^ n
unfolding union_all
union_all-lt n [] h = h 0
union_all-lt n (w ∷ ws) h = union-lt n w (union_all ws) (h 0) (union_all-lt n ws (λ i. h (suc i)))

-- ---- subsets

-- a subset's nodes are in the set
pub subset-has : (a b i : ℕ) → subset a b ≡ true → has a i ≡ true → has b i ≡ true
subset-has a b i s m =
    sym (rw m at (has-inter a b i)) ∙ ap (λ (w : ℕ). has w i) (eqb-true (inter a b) a s) ∙ m

-- what has all its nodes in b is a subset of b
pub has-subset : (a b : ℕ) → ((i : ℕ) → has a i ≡ true → has b i ≡ true) → subset a b ≡ true
has-subset a b h =
    eq-eqb (inter a b) a (has-ext (inter a b) a (λ i. has-inter a b i ∙ and-follows (has a i) (has b i) (h i)))

pub subset-refl : (a : ℕ) → subset a a ≡ true
subset-refl a = has-subset a a (λ i m. m)

pub subset-trans : (a b c : ℕ) → subset a b ≡ true → subset b c ≡ true → subset a c ≡ true
subset-trans a b c p q = has-subset a c (λ i m. subset-has b c i q (subset-has a b i p m))

pub subset-antisym : (a b : ℕ) → subset a b ≡ true → subset b a ≡ true → a ≡ b
subset-antisym a b p q = has-ext a b (λ i. test-ext (has a i) (has b i) (subset-has a b i p) (subset-has b a i q))

pub subset-none : (a : ℕ) → subset 0 a ≡ true
subset-none a = eq-eqb (inter 0 a) 0 (none-inter a)

pub subset-union : (a b : ℕ) → subset a (union a b) ≡ true
subset-union a b = eq-eqb (inter a (union a b)) a (inter-absorb a b)

pub subset-union-r : (a b : ℕ) → subset b (union a b) ≡ true
subset-union-r a b = rw (union_comm a b) (subset-union b a)

-- the union is the least set with both in it
pub union-subset : (a b c : ℕ) → subset a c ≡ true → subset b c ≡ true → subset (union a b) c ≡ true
union-subset a b c p q = has-subset (union a b) c (λ i m. go i (by_test (has a i)) m)
  where
    go : (i : ℕ) → (has a i ≡ true) ⊎ (has a i ≡ false) → has (union a b) i ≡ true → has c i ≡ true
    go i (inl h) m = subset-has a c i p h
    go i (inr h) m = subset-has b c i q (sym (rw h at (has-union a b i)) ∙ m)

pub inter-subset-l : (a b : ℕ) → subset (inter a b) a ≡ true
inter-subset-l a b = has-subset (inter a b) a (λ i m. ((and-eq-true_iff (has a i) (has b i)).0 (sym (has-inter a b i) ∙ m)).0)

pub inter-subset-r : (a b : ℕ) → subset (inter a b) b ≡ true
inter-subset-r a b = rw (inter_comm a b) (inter-subset-l b a)

pub diff-subset : (a b : ℕ) → subset (diff a b) a ≡ true
diff-subset a b = has-subset (diff a b) a (λ i m. ((and-eq-true_iff (has a i) (not (has b i))).0 (sym (has_diff a b i) ∙ m)).0)

-- the subsets of the first n nodes are the numbers below 2^n
pub subset-roster : (a n : ℕ) → subset a (roster n) ≡ ltb a (2 ^ n)
unfolding inter
subset-roster a n =
    ⊎_elim (λ l. eq-eqb (inter a (roster n)) a (and_mask a n ∙ mod-eq_of_lt l) ∙ sym (lt-ltb a (2 ^ n) l))
    (λ l. ne_eqb (inter a (roster n)) a (λ e. omega (arith, and_mask a n, mod-lt a (pow_pos n))) ∙ sym (le-ltb a (2 ^ n) l))
    (by_lt a (2 ^ n))

-- a set has a node past the first n where it is no subset of them
pub beyond-roster : (w n : ℕ) → beyond w n ≡ not (subset w (roster n))
beyond-roster w n =
    ⊎_elim (λ l. lt-leb (2 ^ n) w l ∙ sym (ap not (subset-roster w n ∙ lt-ltb w (2 ^ n) l)))
    (λ l. le-leb (2 ^ n) w l ∙ sym (ap not (subset-roster w n ∙ le-ltb w (2 ^ n) l)))
    (by_lt w (2 ^ n))

pub subset-single : (i a : ℕ) → subset (single i) a ≡ has a i
subset-single i a =
    test-ext (subset (single i) a) (has a i) (λ s. subset-has (single i) a i s (has-single i i ∙ eq-eqb i i refl))
    (λ m. has-subset (single i) a (λ j h. rw (← eqb-true i j (sym (has-single i j) ∙ h)) m))

-- what is taken out of a superset is nothing
pub subset-diff : (a b : ℕ) → subset a b ≡ empty (diff a b)
unfolding diff inter
subset-diff a b =
    ⊎_elim (λ e. eq-eqb (inter a b) a e ∙ sym (eq-eqb (diff a b) 0 (omega arith)))
    (λ n. ne_eqb (inter a b) a n ∙ sym (ne_eqb (diff a b) 0 (λ z. n (omega (arith, and_le_l a b)))))
    (by_eq (inter a b) a)

pub subset-le : (a b : ℕ) → subset a b ≡ true → a ≤ b
subset-le a b s = omega (arith, eqb-true (inter a b) a s, inter-le-r a b)

-- ---- a set and one node

pub inter-single-in : (w i : ℕ) → has w i ≡ true → inter w (single i) ≡ single i
inter-single-in w i m = inter_comm w (single i) ∙ eqb-true (inter (single i) w) (single i) (subset-single i w ∙ m)

pub inter-single-out : (w i : ℕ) → has w i ≡ false → inter w (single i) ≡ 0
inter-single-out w i m =
    has-ext (inter w (single i)) 0
    (λ j. has-inter w (single i) j ∙ ap (λ (t : Bool). has w j && t) (has-single i j) ∙ ⊎_elim (λ e. at j e) (λ n. off j n) (by_eq i j) ∙ sym (has-none j))
  where
    at : (j : ℕ) → i ≡ j → has w j && eqb i j ≡ false
    at j e = ap (λ (k : ℕ). has w k && eqb i k) (sym e) ∙ ap (λ (t : Bool). t && eqb i i) m

    off : (j : ℕ) → (i ≡ j → ⊥) → has w j && eqb i j ≡ false
    off j n = ap (λ (t : Bool). has w j && t) (ne_eqb i j n) ∙ and-false (has w j)

-- a member leaves by a subtraction; what is no member leaves nothing behind
pub without-member : (w i : ℕ) → has w i ≡ true → without_node w i ≡ w - single i
unfolding diff inter
without-member w i m = ap (λ (x : ℕ). w - x) (inter-single-in w i m)

pub without_other : (w i : ℕ) → has w i ≡ false → without_node w i ≡ w
unfolding diff inter
without_other w i m = omega (arith, inter-single-out w i m)
