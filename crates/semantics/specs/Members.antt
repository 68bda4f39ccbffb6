-- Lists that have a word for each node, changed word by word: the word of each node after it, and which nodes are in it.
-- Assumes nothing.
use Rattle.std.specs.Prelude.{◌≡◌, refl, ◌≢◌, Bool, true, false, not, ◌&&◌, ◌||◌, List, [], ◌∷◌, ℕ, zero, suc, ◌+◌, ◌^◌, ◌≤◌, ◌<◌, eqb, length, get_or}
use Rattle.std.proofs.Common.{sym, ap, ◌∙◌, ⊎_elim, lt_of_lt_of_le, zero-add, suc-add, add-suc, add-zero, arith, pow_mono, ne_eqb}
use Rattle.std.proofs.Math.Bool.{cond, or-true, or-false, and-eq-true_iff}
use Rattle.std.proofs.Math.ListN.{get_or-eq_default}
use Rattle.nodes.specs.Sets.{node_limit, has, single, union, diff}
use Rattle.nodes.specs.Bools.{by_lt}
use Rattle.nodes.proofs.SetLaws.{has-union, has_diff, has-single, has-none, has_above, has-below, diff-none}
use Rattle.semantics.specs.Steps.{mapi, zip_with, meet, left, interconnect, leave_free, one_free_group}
use Rattle.semantics.specs.Truth.{or_cases}

-- ---- a function at each place

pub length-mapi : (f : ℕ → ℕ → ℕ) (k : ℕ) (l : List ℕ) → length (mapi f k l) ≡ length l
length-mapi f k [] = refl
length-mapi f k (x ∷ xs) = ap suc (length-mapi f (suc k) xs)

-- the word at a place of the list
pub getD-mapi : (f : ℕ → ℕ → ℕ) (k i : ℕ) (l : List ℕ) → i < length l → get_or (mapi f k l) i 0 ≡ f (k + i) (get_or l i 0)
getD-mapi f k i [] h = absurd (omega arith)
getD-mapi f k zero (x ∷ xs) h = ap (λ (n : ℕ). f n x) (sym (add-zero k))
getD-mapi f k (suc i) (x ∷ xs) h =
    getD-mapi f (suc k) i xs (omega arith) ∙ ap (λ (n : ℕ). f n (get_or xs i 0)) (suc-add k i ∙ sym (add-suc k i))

-- the word at any place, where f gives 0 for 0 past the end
pub at-mapi : (f : ℕ → ℕ → ℕ) (l : List ℕ) → ((i : ℕ) → length l ≤ i → f i 0 ≡ 0) → (i : ℕ) → get_or (mapi f 0 l) i 0 ≡ f i (get_or l i 0)
at-mapi f l h i =
    ⊎_elim (λ (k : i < length l). getD-mapi f 0 i l k ∙ ap (λ (n : ℕ). f n (get_or l i 0)) (zero-add i))
    (λ (k : length l ≤ i).
    get_or-eq_default (mapi f 0 l) 0 (omega (arith, length-mapi f 0 l))
    ∙ sym (ap (f i) (get_or-eq_default l 0 k) ∙ h i k))
    (by_lt i (length l))

pub length-interconnect : (m : ℕ) (l : List ℕ) → length (interconnect m l) ≡ length l
unfolding interconnect
length-interconnect m l = length-mapi (meet m) 0 l

pub length-leave_free : (m : ℕ) (l : List ℕ) → length (leave_free m l) ≡ length l
unfolding leave_free
length-leave_free m l = length-mapi (left m) 0 l

pub length-one_free_group : (m : ℕ) (l : List ℕ) → length (one_free_group m l) ≡ length l
unfolding one_free_group
length-one_free_group m l = length-mapi (λ i f. cond (has m i) m f) 0 l

-- two lists that are equally long, word by word
pub at-zip_with : (f : ℕ → ℕ → ℕ) → f 0 0 ≡ 0 → (xs ys : List ℕ) → length xs ≡ length ys
    → (i : ℕ) → get_or (zip_with f xs ys) i 0 ≡ f (get_or xs i 0) (get_or ys i 0)
at-zip_with f z [] [] e i = sym z
at-zip_with f z [] (y ∷ ys) e i = absurd (omega arith)
at-zip_with f z (x ∷ xs) [] e i = absurd (omega arith)
at-zip_with f z (x ∷ xs) (y ∷ ys) e zero = refl
at-zip_with f z (x ∷ xs) (y ∷ ys) e (suc i) = at-zip_with f z xs ys (omega arith) i

-- ---- one word

pub has_meet : (m i l j : ℕ) → has (meet m i l) j ≡ has l j || (has m i && (has m j && not (eqb i j)))
has_meet m i l j = go (has m i)
  where
    go : (x : Bool) → has (cond x (union l (diff m (single i))) l) j ≡ has l j || (x && (has m j && not (eqb i j)))
    go true = rw (has-union, has_diff, has-single)
    go false = sym (or-false (has l j))

pub has_left : (m i f j : ℕ) → has (left m i f) j ≡ not (has m i) && (has f j && not (has m j))
has_left m i f j = go (has m i)
  where
    go : (x : Bool) → has (cond x 0 (diff f m)) j ≡ not x && (has f j && not (has m j))
    go true = has-none j
    go false = has_diff f m j

-- a set of nodes of the roster fits a word
pub in-word : {m n : ℕ} → n ≤ node_limit → m < 2 ^ n → m < 2 ^ node_limit
in-word h k = lt_of_lt_of_le k (pow_mono h)

-- ---- each node's word, when the nodes of m meet, leave, or become one free group

module _ (m : ℕ) (l : List ℕ) (small : m < 2 ^ node_limit) (long : length l ≡ node_limit) where
  pub at-interconnect : (i : ℕ) → get_or (interconnect m l) i 0 ≡ meet m i (get_or l i 0)
  unfolding interconnect
  at-interconnect i = at-mapi (meet m) l (λ k h. rw (has_above m node_limit k small (omega arith))) i

  pub has-interconnect : (i j : ℕ) → has (get_or (interconnect m l) i 0) j ≡ has (get_or l i 0) j || (has m i && (has m j && not (eqb i j)))
  has-interconnect i j = ap (λ (w : ℕ). has w j) (at-interconnect i) ∙ has_meet m i (get_or l i 0) j

  pub at-leave_free : (i : ℕ) → get_or (leave_free m l) i 0 ≡ left m i (get_or l i 0)
  unfolding leave_free
  at-leave_free i = at-mapi (left m) l (λ k h. rw (has_above m node_limit k small (omega arith)) (diff-none m)) i

  pub has-leave_free : (i j : ℕ) → has (get_or (leave_free m l) i 0) j ≡ not (has m i) && (has (get_or l i 0) j && not (has m j))
  has-leave_free i j = ap (λ (w : ℕ). has w j) (at-leave_free i) ∙ has_left m i (get_or l i 0) j

  pub at-one_free_group : (i : ℕ) → get_or (one_free_group m l) i 0 ≡ cond (has m i) m (get_or l i 0)
  unfolding one_free_group
  at-one_free_group i = at-mapi (λ k f. cond (has m k) m f) l (λ k h. rw (has_above m node_limit k small (omega arith))) i

  pub has-one_free_group : (i j : ℕ) → has (get_or (one_free_group m l) i 0) j ≡ cond (has m i) (has m j) (has (get_or l i 0) j)
  has-one_free_group i j = ap (λ (w : ℕ). has w j) (at-one_free_group i) ∙ go (has m i)
    where
      go : (x : Bool) → has (cond x m (get_or l i 0)) j ≡ cond x (has m j) (has (get_or l i 0) j)
      go true = refl
      go false = refl

  -- connections stay
  pub linked-still : (i j : ℕ) → has (get_or l i 0) j ≡ true → has (get_or (interconnect m l) i 0) j ≡ true
  linked-still i j h = has-interconnect i j ∙ rw h

  -- the nodes of m are connected
  pub linked-now : (i j : ℕ) → has m i ≡ true → has m j ≡ true → i ≢ j → has (get_or (interconnect m l) i 0) j ≡ true
  linked-now i j p q n = has-interconnect i j ∙ rw (p, q, ne_eqb i j n) (or-true (has (get_or l i 0) j))

  -- no connection leaves the roster
  pub linked-within : (n : ℕ) → m < 2 ^ n → ((i j : ℕ) → has (get_or l i 0) j ≡ true → j < n)
      → (i j : ℕ) → has (get_or (interconnect m l) i 0) j ≡ true → j < n
  linked-within n h w i j k =
      or_cases _ _ (sym (has-interconnect i j) ∙ k) (w i j)
      (λ e. has-below m n j h ((and-eq-true_iff (has m j) _).0 ((and-eq-true_iff (has m i) _).0 e).1).0)
