-- What the test of an index says: of the rows from k on, row by row; and of all words. Assumes nothing.
use Rattle.std.specs.Prelude.{◌≡◌, refl, ◌↔◌, true, false, ◌&&◌, List, [], ◌∷◌, ℕ, ◌+◌, ◌*◌, ◌≤◌, ◌<◌, ltb, length, get_or, take, drop}
use Rattle.std.proofs.Common.{sym, ap, ◌∙◌, ⊎_elim, add-one, arith, drop-cons, drop_of_length-le, get_or-take, ext_get_or, lt-ltb, le-ltb, ltb-true}
use Rattle.std.proofs.Math.Bool.{and-false, and-eq-true_iff}
use Rattle.std.proofs.Math.ListN.{get_or-eq_default}
use Rattle.nodes.specs.Bools.{by_lt, test-ext}
use Rattle.semantics.specs.Sizes.{names_per_group, row_words, index_words}
use Rattle.semantics.specs.Test.{same, sound}
use Rattle.semantics.specs.TestLaws.{same-iff}
use Rattle.semantics.specs.Padding.{length-pad, getD-pad}
use Rattle.free_test.specs.WireTests.{all_zero}
use Rattle.free_test.specs.Below.{tail-iff}
use Rattle.sound_table.specs.Here.{here, regular}
use Rattle.indexes.specs.Index.{Row, walk, sorted, flat, laid, index_of, index_of_table}
use Rattle.indexes.specs.Ascending.{Ascending, Distinct, holds, all_held}
use Rattle.indexes.specs.Sorting.{length-sorted, sorted-ascending}
use Rattle.indexes.specs.Flat.{length-flat, read_rows, rows-read, length-read_rows, read_rows_flat}
use Rattle.indexes.specs.WalkLaws.{walk-distinct}
use Rattle.indexes.specs.WalkWords.{walk-fits}
use Rattle.indexes.specs.TestLaws.{sorted-held, held-sorted}
use Rattle.index_rows.specs.Arrays.{as_row, as_rows}
use Rattle.index_test.specs.Right.{all_right}

-- ---- row by row

module _ (rs : List (List ℕ)) (ws : List Row) (last k : ℕ) (h : k < length rs) where
  first-right : let r = as_row (get_or rs k []) in
      all_right last (as_rows (drop k rs)) ws ≡ ltb last r.key && (holds r ws && all_right r.key (as_rows (drop (k + 1) rs)) ws)
  first-right = rw (add-one k, drop-cons rs k [] h)

  -- a key that does not ascend is wrong
  pub wrong-key : (as_row (get_or rs k [])).key ≤ last → all_right last (as_rows (drop k rs)) ws ≡ false
  wrong-key l = first-right ∙ rw (le-ltb last (as_row (get_or rs k [])).key l)

  -- and so is a row that is not held
  pub wrong_row : holds (as_row (get_or rs k [])) ws ≡ false → all_right last (as_rows (drop k rs)) ws ≡ false
  wrong_row n = first-right ∙ rw n (and-false (ltb last (as_row (get_or rs k [])).key))

  -- else those after it decide
  pub right-row : last < (as_row (get_or rs k [])).key → holds (as_row (get_or rs k [])) ws ≡ true
      → all_right last (as_rows (drop k rs)) ws ≡ all_right (as_row (get_or rs k [])).key (as_rows (drop (k + 1) rs)) ws
  right-row l n = first-right ∙ rw (lt-ltb last (as_row (get_or rs k [])).key l, n)

-- past the last row nothing is wrong
pub all-looked-at : (rs : List (List ℕ)) (ws : List Row) (last k : ℕ) → length rs ≤ k → all_right last (as_rows (drop k rs)) ws ≡ true
all-looked-at rs ws last k h = rw (drop_of_length-le rs {i = k} h)

-- ---- all rows

-- right rows ascend, and are all held
right-iff : (b : ℕ) (xs ws : List Row) → (all_right b xs ws ≡ true) ↔ (Ascending b xs × (all_held xs ws ≡ true))
unfolding all_held
right-iff b [] ws = (λ h. (tt, refl), λ h. refl)
right-iff b (x ∷ xs) ws = (
  λ h.
      let p = (and-eq-true_iff (ltb b x.key) (holds x ws && all_right x.key xs ws)).0 h in
      let q = (and-eq-true_iff (holds x ws) (all_right x.key xs ws)).0 p.1 in
      let r = (right-iff x.key xs ws).0 q.1 in
      ((ltb-true b x.key p.0, r.0), rw q.0 r.1),
  λ h.
      let p = (and-eq-true_iff (holds x ws) (all_held xs ws)).0 h.1 in
      rw (lt-ltb b x.key h.0.0, p.0) ((right-iff x.key xs ws).1 (h.0.1, p.1)),
)

-- as many rows as distinct ones are right if they are those, sorted
right-sorted : (xs ws : List Row) → Distinct ws → length xs ≡ length ws → (all_right 0 xs ws ≡ true) ↔ (xs ≡ sorted ws)
right-sorted xs ws d n = (
  λ h. let p = (right-iff 0 xs ws).0 h in sym (sorted-held xs ws p.0 d n p.1),
  λ h. rw h ((right-iff 0 (sorted ws) ws).1 (sorted-ascending ws d, held-sorted ws)),
)

-- ---- all words

-- words that hold these rows and then zeros are the rows laid out
laid-iff : (xs : List Row) (index : List ℕ) → row_words * length xs ≤ length index
    → (index ≡ laid (length index) xs) ↔ ((all_zero (drop (row_words * length xs) index) ≡ true) × (read_rows (length xs) index ≡ xs))
laid-iff xs index fits = (
  λ e. (
    (tail-iff (row_words * length xs) index).1 (λ i l m.
        ap (λ (ws : List ℕ). get_or ws i 0) e ∙ getD-pad (length index) (flat xs) i ∙ get_or-eq_default (flat xs) 0 (omega (arith, length-flat xs))),
    ap (read_rows (length xs)) e ∙ read_rows_flat xs _,
  ),
  λ h.
      let front : take (row_words * length xs) index ≡ flat xs = sym (rows-read (length xs) index fits) ∙ ap flat h.1 in
      ext_get_or 0 index (laid (length index) xs) (sym (length-pad (length index) (flat xs) (omega (arith, length-flat xs)))) (λ i m.
      ⊎_elim
      (λ (l : i < row_words * length xs). sym (get_or-take (row_words * length xs) index i 0 l) ∙ ap (λ (ws : List ℕ). get_or ws i 0) front)
      (λ (l : row_words * length xs ≤ i).
      (tail-iff (row_words * length xs) index).0 h.0 i l m ∙ sym (get_or-eq_default (flat xs) 0 (omega (arith, length-flat xs))))
      (by_lt i (row_words * length xs)) ∙ sym (getD-pad (length index) (flat xs) i)),
)

-- zeros behind as many rows as distinct ones, each of them right: the words are those, sorted and laid out
verdict : (ws : List Row) (index : List ℕ) → Distinct ws → row_words * length ws ≤ length index
    → all_zero (drop (row_words * length ws) index) && all_right 0 (read_rows (length ws) index) ws ≡ same index (laid (length index) (sorted ws))
verdict ws index d fits =
    let laying = laid-iff (sorted ws) index (rw (length-sorted ws) fits) in
    let sorting = right-sorted (read_rows (length ws) index) ws d (length-read_rows (length ws) index fits) in
    let equal = same-iff index (laid (length index) (sorted ws)) in
    test-ext (all_zero (drop (row_words * length ws) index) && all_right 0 (read_rows (length ws) index) ws) (same index (laid (length index) (sorted ws)))
    (λ h.
    let p = (and-eq-true_iff (all_zero (drop (row_words * length ws) index)) (all_right 0 (read_rows (length ws) index) ws)).0 h in
    equal.1 (laying.1 (rw (length-sorted ws) (p.0, sorting.0 p.1))))
    (λ h.
    let p = rw (length-sorted ws) at (laying.0 (equal.0 h)) in
    (and-eq-true_iff (all_zero (drop (row_words * length ws) index)) (all_right 0 (read_rows (length ws) index) ws)).1 (p.0, sorting.1 p.1))

-- of the walk over a sound table, which has n rows, they are its index
pub index-verdict : (t index : List ℕ) (n : ℕ) → sound names_per_group t ≡ true → length index ≡ index_words names_per_group → n ≡ length (walk (here t).groups)
    → all_zero (drop (row_words * n) index) && all_right 0 (read_rows n index) (walk (here t).groups) ≡ same index (index_of_table names_per_group t)
unfolding index_of
index-verdict t index n ok long many =
    let distinct = walk-distinct names_per_group (here t) (regular t ok) in
    rw many (rw long at (verdict (walk (here t).groups) index distinct (omega (arith, walk-fits names_per_group t ok 0))))
