-- Runs one after another: what they are where a list with ascending keys has a run at each key, how many there are, and the word of a set.
-- Assumes nothing.
use Rattle.std.specs.Prelude.{◌≡◌, ◌⊎◌, Bool, true, false, ◌&&◌, ◌||◌, cond, eqb, ltb, length}
use Rattle.std.proofs.Math.Path.{refl, ap₂, fun_ext}
use Rattle.std.proofs.Common.{sym, ap, ◌∙◌, subst, inl, inr, add-zero, zero-add, add-suc, suc-add, length-append, eq-eqb, ne_eqb, lt-ltb, le-ltb}
use Rattle.std.proofs.Math.Logic.{⊎_elim}
use Rattle.std.proofs.Math.Bool.{and-true, and-false, and_comm, or-false}
use mathlib.Core.List.{List, [], ◌∷◌, ◌++◌}
use Prim.Native.Nat.{ℕ, zero, suc, ◌+◌, ◌^◌, ◌≤◌, ◌<◌}
use native.Mathlib.Omega.{arith}
use Rattle.nodes.specs.Sets.{has, single}
use Rattle.nodes.specs.Bools.{by_lt, by_eq, and-follows}
use Rattle.nodes.proofs.SetLaws.{has-union, has-single, has-none, has-ext, has-below, union-above}
use Rattle.nodes.specs.Digits.{bit-lt}
use Rattle.nodes.proofs.Counts.{tally, count_tally}
use Rattle.nodes.specs.Sets as Nodes
use Rattle.published.specs.Published.{Set}
use Rattle.published.specs.Seen.{set_word, how_many, chained}

pub chained-none : {A : Type 0} (n k : ℕ) → chained {A = A} n k (λ j. []) ≡ []
unfolding chained
chained-none zero k = refl
chained-none (suc n) k = chained-none n (suc k)

-- ---- a list with ascending keys

module _ {A B : Type 0} (key : A → ℕ) (h : A → List B) where
  -- the run of the first element with the key k
  unfoldable pub run_at : ℕ → List A → List B
  run_at k [] = []
  run_at k (x ∷ xs) = cond (eqb (key x) k) (h x) (run_at k xs)

  -- the runs of all elements
  unfoldable pub run_all : List A → List B
  run_all [] = []
  run_all (x ∷ xs) = h x ++ run_all xs

  -- keys from b on, ascending, below m
  unfoldable pub Between : ℕ → ℕ → List A → Type 0
  Between b m [] = Unit {0}
  Between b m (x ∷ xs) = (b ≤ key x) × (key x < m) × Between (suc (key x)) m xs

  pub from_zero : (b m : ℕ) (xs : List A) → Between b m xs → Between 0 m xs
  unfolding Between
  from_zero b m [] u = tt
  from_zero b m (x ∷ xs) u = (omega arith, u.1, u.2)

  run-low : (k b m : ℕ) (xs : List A) → k < b → Between b m xs → run_at k xs ≡ []
  unfolding run_at Between
  run-low k b m [] l u = refl
  run-low k b m (x ∷ xs) l u = rw (ne_eqb (key x) k (λ e. omega (arith, u.0))) (run-low k (suc (key x)) m xs (omega (arith, u.0)) u.2)

  run-here : (x : A) (xs : List A) (k : ℕ) → key x ≡ k → run_at k (x ∷ xs) ≡ h x
  unfolding run_at
  run-here x xs k e = rw (eq-eqb (key x) k e)

  run_past : (x : A) (xs : List A) (k : ℕ) → (key x ≡ k → ⊥) → run_at k (x ∷ xs) ≡ run_at k xs
  unfolding run_at
  run_past x xs k n = rw (ne_eqb (key x) k n)

  pub chained-keyed : (n b m : ℕ) (xs : List A) (f : ℕ → List B) → m ≡ b + n → Between b m xs → ((k : ℕ) → b ≤ k → f k ≡ run_at k xs)
      → chained n b f ≡ run_all xs
  unfolding chained run_all Between
  chained-keyed zero b m [] f e u same = refl
  chained-keyed zero b m (x ∷ xs) f e u same = absurd (omega (arith, u.0, u.1))
  chained-keyed (suc n) b m [] f e u same =
      ap₂ ◌++◌ (same b (omega arith) ∙ run-low b (suc b) m [] (omega arith) tt) (chained-keyed n (suc b) m [] f (omega arith) tt (λ k l. same k (omega arith)))
  chained-keyed (suc n) b m (x ∷ xs) f e u same =
      ⊎_elim
      (λ (p : key x ≡ b).
      ap₂ ◌++◌ (same b (omega arith) ∙ run-here x xs b p)
      (chained-keyed n (suc b) m xs f (omega arith) (subst (λ (k : ℕ). Between (suc k) m xs) p u.2)
      (λ k l. same k (omega arith) ∙ run_past x xs k (λ q. omega arith))))
      (λ (p : key x ≡ b → ⊥).
      let up : Between (suc b) m (x ∷ xs) = (omega (arith, u.0), u.1, u.2) in
      ap₂ ◌++◌ (same b (omega arith) ∙ run-low b (suc b) m (x ∷ xs) (omega arith) up)
      (chained-keyed n (suc b) m (x ∷ xs) f (omega arith) up (λ k l. same k (omega arith))))
      (by_eq (key x) b)

-- one element each: the list itself
pub run_all-one : {A : Type 0} (key : A → ℕ) (xs : List A) → run_all key (λ x. x ∷ []) xs ≡ xs
unfolding run_all
run_all-one key [] = refl
run_all-one key (x ∷ xs) = ap (λ (l : List _). x ∷ l) (run_all-one key xs)

-- ---- how many

pub length-chained : {A B : Type 0} (n k : ℕ) (f : ℕ → List A) (g : ℕ → List B) → ((j : ℕ) → length (f j) ≡ length (g j))
    → length (chained n k f) ≡ length (chained n k g)
unfolding chained
length-chained zero k f g h = refl
length-chained (suc n) k f g h =
    omega (arith, length-append (f k) (chained n (suc k) f), length-append (g k) (chained n (suc k) g), h k, length-chained n (suc k) f g h)

-- the numbers of a set, one by one
abbrev pub in_turn : Set → ℕ → List ℕ
in_turn a k = cond (a k) (k ∷ []) []

count_from : (n k : ℕ) (a : Set) → how_many (k + n) a ≡ how_many k a + length (chained n k (in_turn a))
unfolding chained how_many
count_from zero k a = rw (add-zero k) (omega arith)
count_from (suc n) k a = ap (λ (j : ℕ). how_many j a) (add-suc k n ∙ sym (suc-add k n)) ∙ count_from n (suc k) a ∙ go (a k)
  where
    go : (x : Bool) → cond x (suc (how_many k a)) (how_many k a) + length (chained n (suc k) (in_turn a))
        ≡ how_many k a + length (cond x (k ∷ []) [] ++ chained n (suc k) (in_turn a))
    go true = omega arith
    go false = refl

pub count-chained : (n : ℕ) (a : Set) → how_many n a ≡ length (chained n 0 (in_turn a))
unfolding how_many
count-chained n a = ap (λ (j : ℕ). how_many j a) (sym (zero-add n)) ∙ count_from n 0 a ∙ zero-add _

-- ---- the word of a set

pub word_lt : (n : ℕ) (a : Set) → set_word n a < 2 ^ n
unfolding set_word
word_lt zero a = omega arith
word_lt (suc n) a = go (word_lt n a) (a n)
  where
    go : set_word n a < 2 ^ n → (x : Bool) → cond x (2 ^ n + set_word n a) (set_word n a) < 2 ^ suc n
    go h true = omega arith
    go h false = omega arith

pub has_word : (n : ℕ) (a : Set) (i : ℕ) → has (set_word n a) i ≡ ltb i n && a i
unfolding set_word
has_word zero a i = has-none i ∙ sym (ap (λ (x : Bool). x && a i) (le-ltb i 0 (omega arith)))
has_word (suc n) a i = with-last (a n) ∙ ap (λ (x : Bool). (a n && eqb n i) || x) (has_word n a i) ∙ last (by_eq n i) (by_lt i n)
  where
    with-last : (x : Bool) → has (cond x (2 ^ n + set_word n a) (set_word n a)) i ≡ (x && eqb n i) || has (set_word n a) i
    with-last true =
        ap (λ (w : ℕ). has w i) (sym (union-above n (set_word n a) (word_lt n a)))
        ∙ has-union (single n) (set_word n a) i ∙ ap (λ (x : Bool). x || has (set_word n a) i) (has-single n i)
    with-last false = refl

    last : (n ≡ i) ⊎ (n ≡ i → ⊥) → (i < n) ⊎ (n ≤ i) → (a n && eqb n i) || (ltb i n && a i) ≡ ltb i (suc n) && a i
    last (inl p) d =
        rw (eq-eqb n i p, le-ltb i n (omega arith), lt-ltb i (suc n) (omega arith), and-true (a n), or-false (a n)) (ap a p)
    last (inr p) (inl l) = rw (ne_eqb n i p, lt-ltb i n l, lt-ltb i (suc n) (omega arith), and-false (a n))
    last (inr p) (inr l) = rw (ne_eqb n i p, le-ltb i n l, le-ltb i (suc n) (omega arith), and-false (a n))

-- the word of a set whose members are below n has these members
pub word-has : (n : ℕ) (a : Set) → ((i : ℕ) → a i ≡ true → i < n) → has (set_word n a) ≡ a
word-has n a h = fun_ext (λ i. has_word n a i ∙ and_comm (ltb i n) (a i) ∙ and-follows (a i) (ltb i n) (λ e. lt-ltb i n (h i e)))

-- the word of a word's members is the word
pub word_of : (n w : ℕ) → w < 2 ^ n → set_word n (has w) ≡ w
word_of n w small = has-ext (set_word n (has w)) w (λ i. ap (λ (a : Set). a i) (word-has n (has w) (λ j. has-below w n j small)))

-- the members of a word are as many as it has
pub count-has : (n w : ℕ) → w < 2 ^ n → how_many n (has w) ≡ Nodes.count w
unfolding how_many tally
count-has n w small = go n ∙ sym (count_tally n w small)
  where
    one : (m d : ℕ) → d < 2 → cond (eqb d 1) (suc m) m ≡ m + d
    one m zero h = sym (add-zero m)
    one m (suc zero) h = omega arith
    one m (suc (suc d)) h = absurd (omega arith)

    go : (n : ℕ) → how_many n (has w) ≡ tally n w
    go zero = refl
    go (suc n) = one (how_many n (has w)) (Nodes.bit w n) (bit-lt w n) ∙ ap (λ (m : ℕ). m + Nodes.bit w n) (go n)
