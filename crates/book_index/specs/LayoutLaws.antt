-- What a write to an index changes, and what it leaves. Assumes nothing.
use Rattle.std.specs.Prelude.{◌≡◌, refl, Bool, true, false, ◌||◌, List, ◌++◌, ℕ, ◌+◌, ◌*◌, ◌/◌, ◌%◌, ◌<◌, length, set, replicate}
use Rattle.std.proofs.Common.{sym, ◌∙◌}
use Rattle.std.proofs.Math.Path.{ap}
use Rattle.std.proofs.Math.Logic.{⊎_elim}
use Rattle.std.proofs.Math.Bool.{or-false}
use native.Mathlib.Omega.{arith}
use borrow.Author.Tests.{eq-eqb, ne_eqb, eqb-true}
use Rattle.std.proofs.Math.Dec.{eqb}
use Rattle.std.proofs.Math.ListN.{get_or, drop, length-set, length-append, length-drop, length-replicate, get_or-replicate, get_or-append}
use Rattle.std.proofs.Math.Seq.{get_or-set_same, get_or-set_other, get_or-append-add, get_or-drop}
use Rattle.nodes.specs.Bools.{by_eq}
use Rattle.nodes.specs.Sets.{has, with_node}
use Rattle.nodes.proofs.SetLaws.{has-with_node, has-below, below-pow}
use Rattle.book_index.specs.Layout.{index_size, hint_count, mark_count, number_count, number_at, with_number, has_mark, with_mark, cleared}

-- ---- a number

pub length-with_number : (x : List ℕ) (j v : ℕ) → length (with_number x j v) ≡ length x
unfolding with_number
length-with_number x j v = simp length-set

module _ (x : List ℕ) (j v : ℕ) where
  pub number-with-same : length x ≡ index_size → j < number_count → number_at (with_number x j v) j ≡ v
  unfolding number_at with_number
  number-with-same l h =
      rw (
        get_or-set_other (set x (hint_count + j * 2) (v % 256)) (hint_count + j * 2 + 1) (hint_count + j * 2) (v / 256) 0 (λ e. omega arith),
        get_or-set_same x (hint_count + j * 2) (v % 256) 0 (omega arith),
        get_or-set_same (set x (hint_count + j * 2) (v % 256)) (hint_count + j * 2 + 1) (v / 256) 0 (omega (arith, length-set x (hint_count + j * 2) (v % 256))),
      )
      (omega arith)

  -- a byte outside the number
  byte-with_number : (k : ℕ) → (k ≡ hint_count + j * 2 → ⊥) → (k ≡ hint_count + j * 2 + 1 → ⊥) → get_or (with_number x j v) k 0 ≡ get_or x k 0
  unfolding with_number
  byte-with_number k a b =
      get_or-set_other (set x (hint_count + j * 2) (v % 256)) (hint_count + j * 2 + 1) k (v / 256) 0 b
      ∙ get_or-set_other x (hint_count + j * 2) k (v % 256) 0 a

  pub number-with-other : (k : ℕ) → (k ≡ j → ⊥) → number_at (with_number x j v) k ≡ number_at x k
  unfolding number_at
  number-with-other k n =
      rw (
        byte-with_number (hint_count + k * 2) (λ e. n (omega arith)) (λ e. omega arith),
        byte-with_number (hint_count + k * 2 + 1) (λ e. omega arith) (λ e. n (omega arith)),
      )

  pub hint-with_number : (k : ℕ) → k < hint_count → get_or (with_number x j v) k 0 ≡ get_or x k 0
  hint-with_number k h = byte-with_number k (λ e. omega arith) (λ e. omega arith)

  pub mark-with_number : (m : ℕ) → m < mark_count → has_mark (with_number x j v) m ≡ has_mark x m
  unfolding has_mark
  mark-with_number m h = rw (hint-with_number (m / 8) (omega arith))

-- ---- a mark or a hint

-- no number changes with a byte in front of them
pub number-set : (x : List ℕ) (k v j : ℕ) → k < hint_count → number_at (set x k v) j ≡ number_at x j
unfolding number_at
number-set x k v j h =
    rw (get_or-set_other x k (hint_count + j * 2) v 0 (λ e. omega arith), get_or-set_other x k (hint_count + j * 2 + 1) v 0 (λ e. omega arith))

-- a byte with one bit more is a byte
pub with-bit : (w b : ℕ) → w < 256 → b < 8 → with_node w b < 256
with-bit w b h l = below-pow (with_node w b) 8 (λ i e. go i (has w i) refl (sym (has-with_node w b i (omega arith)) ∙ e))
  where
    go : (i : ℕ) (t : Bool) → has w i ≡ t → (t || eqb b i) ≡ true → i < 8
    go i true e f = has-below w 8 i h e
    go i false e f = omega (arith, eqb-true b i f)

module _ (x : List ℕ) (m : ℕ) (here : m < mark_count) where
  pub length-with_mark : length (with_mark x m) ≡ length x
  unfolding with_mark
  length-with_mark = simp length-set

  pub number-with_mark : (j : ℕ) → number_at (with_mark x m) j ≡ number_at x j
  unfolding with_mark
  number-with_mark j = number-set x (m / 8) (with_node (get_or x (m / 8) 0) (m % 8)) j (omega arith)

  pub has-with_mark : length x ≡ index_size → (k : ℕ) → has_mark (with_mark x m) k ≡ has_mark x k || eqb m k
  unfolding has_mark with_mark
  has-with_mark l k =
      ⊎_elim
      (λ (t : k / 8 ≡ m / 8).
      rw (t, get_or-set_same x (m / 8) (with_node (get_or x (m / 8) 0) (m % 8)) 0 (omega arith), has-with_node (get_or x (m / 8) 0) (m % 8) (k % 8) (omega arith))
      (ap (λ (b : Bool). has (get_or x (m / 8) 0) (k % 8) || b) (alike t)))
      (λ (t : k / 8 ≡ m / 8 → ⊥).
      rw (get_or-set_other x (m / 8) (k / 8) (with_node (get_or x (m / 8) 0) (m % 8)) 0 t, ne_eqb m k (λ e. t (ap (λ (n : ℕ). n / 8) (sym e))))
      (sym (or-false (has (get_or x (k / 8) 0) (k % 8)))))
      (by_eq (k / 8) (m / 8))
    where
      alike : k / 8 ≡ m / 8 → eqb (m % 8) (k % 8) ≡ eqb m k
      alike t =
          ⊎_elim
          (λ (u : m ≡ k). rw (eq-eqb m k u, eq-eqb (m % 8) (k % 8) (ap (λ (n : ℕ). n % 8) u)))
          (λ (u : m ≡ k → ⊥). rw (ne_eqb m k u, ne_eqb (m % 8) (k % 8) (λ e. u (omega arith))))
          (by_eq m k)

-- ---- none

module _ (x : List ℕ) where
  pub hint-cleared : (k : ℕ) → k < hint_count → get_or (cleared x) k 0 ≡ 0
  unfolding cleared
  hint-cleared k h =
      get_or-append (replicate hint_count 0) (drop hint_count x) 0 k (omega (arith, length-replicate {A = ℕ} hint_count 0)) ∙ get_or-replicate hint_count k 0 0 h

  pub length-cleared : length x ≡ index_size → length (cleared x) ≡ index_size
  unfolding cleared
  length-cleared l =
      length-append (replicate hint_count 0) (drop hint_count x) ∙ omega (arith, length-replicate {A = ℕ} hint_count 0, length-drop hint_count x)

  byte-cleared : (k : ℕ) → get_or (cleared x) (hint_count + k) 0 ≡ get_or x (hint_count + k) 0
  unfolding cleared
  byte-cleared k =
      ap (λ (n : ℕ). get_or (replicate hint_count 0 ++ drop hint_count x) (n + k) 0) (sym (length-replicate {A = ℕ} hint_count 0))
      ∙ get_or-append-add (replicate hint_count 0) (drop hint_count x) k 0
      ∙ get_or-drop hint_count x k 0

  pub number-cleared : (j : ℕ) → number_at (cleared x) j ≡ number_at x j
  unfolding number_at
  number-cleared j =
      let e : hint_count + j * 2 + 1 ≡ hint_count + (j * 2 + 1) = omega arith in
      rw (e, byte-cleared (j * 2), byte-cleared (j * 2 + 1))
