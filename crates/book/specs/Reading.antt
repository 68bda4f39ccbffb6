-- A book that is read line by line, while its index is made. Assumes nothing.
use Rattle.std.specs.Prelude.{◌≡◌, refl, Bool, false, None, ◌&&◌, ℕ, ◌+◌, ◌-◌, ◌*◌, ◌≤◌, ◌<◌, length, take, drop}
use Rattle.std.proofs.Math.Path.{sym}
use Rattle.std.proofs.Common.{ap, ◌∙◌, ⊎_elim, arith, length-drop, length-take-le}
use Rattle.std.proofs.Math.Bool.{true, and-false, or-true}
use Rattle.std.proofs.lemmas.Bool.{false≢true}
use mathlib.Core.List.{List}
use borrow.Author.Tests.{leb-true, le-leb, lt-leb, eq-eqb}
use Rattle.std.proofs.Math.Dec.{leb}
use Rattle.nodes.specs.Bools.{by_lt}
use Rattle.tokens.specs.Reserved.{among}
use Rattle.text.specs.Text.{newline, find_in}
use Rattle.book_index.specs.Layout.{index_size, mark_count, number_at, with_number, has_mark, with_mark, cleared}
use Rattle.book_index.specs.LayoutLaws.{length-with_number, number-with-same, number-with-other, mark-with_number, length-with_mark, number-with_mark, has-with_mark, length-cleared}
use Rattle.book.specs.Book.{longest_atom, group_atoms, lines, ended, all_atoms, distinct, fit}
use Rattle.book.specs.Index.{indexed_lines, group_number, atom_mark, Marked, Holds, Places, Noted}
use Rattle.book.specs.LineLaws.{lines-count, ended-without}
use Rattle.book.specs.PlaceLaws.{atoms-more, atoms-spoiled, among_last, distinct_more, distinct-spoiled}
use Rattle.book.specs.Passing.{Passed, atom_end, groups_behind, end-missed, groups-uncounted, first_lines, end-left, all_passed, lines_more, passed-more, lines-here, line-here}

-- i lines are passed, up to a place; the index has their marks, and the places of those that it has room for
pub record Reading (t x : List ℕ) (i at : ℕ) : Type 0 where
  pub size : length x ≡ index_size
  pub passed : Passed t i at
  pub short : at ≤ i * 65
  pub are_atoms : all_atoms (lines (take at t)) ≡ true
  pub differ : distinct (lines (take at t)) ≡ true
  pub marked : Marked (lines (take at t)) x
  pub begins : i ≤ indexed_lines → number_at x i ≡ at
  pub holds : (j : ℕ) → j < i → j < indexed_lines → Holds t x j

-- ---- what is no book

module _ (n : ℕ) (t : List ℕ) where
  unfit-end : ended t ≡ false → fit n t ≡ false
  unfolding fit
  unfit-end h = rw h

  unfit-atoms : all_atoms (lines t) ≡ false → fit n t ≡ false
  unfolding fit
  unfit-atoms h = rw (h, and-false (ended t))

  unfit-twice : distinct (lines t) ≡ false → fit n t ≡ false
  unfolding fit
  unfit-twice h = rw (h, and-false (ended t && all_atoms (lines t)))

  unfit-few : length (lines t) < n → fit n t ≡ false
  unfolding fit
  unfit-few h = rw (lt-leb n (length (lines t)) h, and-false (ended t && all_atoms (lines t) && distinct (lines t)))

  unfit-many : n + group_atoms < length (lines t) → fit n t ≡ false
  unfolding fit
  unfit-many h =
      rw (lt-leb (length (lines t)) (n + group_atoms) h)
      (and-false (ended t && all_atoms (lines t) && distinct (lines t) && leb n (length (lines t))))

-- ---- the beginning

pub start : (t x : List ℕ) → length x ≡ index_size → Reading t (with_number (cleared x) 0 0) 0 0
unfolding lines ended all_atoms distinct among
start t x l = record {
  size = length-with_number (cleared x) 0 0 ∙ length-cleared x l;
  passed = record { within = omega arith; whole = refl; number = refl };
  short = omega arith;
  are_atoms = refl;
  differ = refl;
  marked = λ a h. absurd (false≢true h);
  begins = λ h. number-with-same (cleared x) 0 0 (length-cleared x l) (omega arith);
  holds = λ j h k. absurd (omega arith);
}

-- ---- one line

-- the places of a line stay
pub holds-still : (t x y : List ℕ) (j : ℕ) → number_at y j ≡ number_at x j → number_at y (j + 1) ≡ number_at x (j + 1) → Holds t x j → Holds t y j
holds-still t x y j p q H = record {
  before = rw (p, q) H.before;
  within = rw q H.within;
  line_is = rw (p, q) H.line_is;
}

module _ (n : ℕ) (t x : List ℕ) (i at : ℕ) (R : Reading t x i at) where
  pub count-within : i ≤ at
  count-within = omega (arith, R.passed.number, lines-count (take at t), length-take-le at t R.passed.within)

  pub no-newline : at < length t → length t ≤ at + find_in newline (drop at t) → fit n t ≡ false
  no-newline h l = unfit-end n t (end-left t i at R.passed ∙ ended-without (drop at t) (omega (arith, length-drop at t)) (omega (arith, length-drop at t)))

  -- the places of the lines passed stay where a mark is set
  holds-marked : (m : ℕ) → m < mark_count → (j : ℕ) → Holds t x j → Holds t (with_mark x m) j
  holds-marked m h j = holds-still t x (with_mark x m) j (number-with_mark x m h j) (number-with_mark x m h (j + 1))

  pub places_marked : (y : List ℕ) (m : ℕ) → m < mark_count → y ≡ with_mark x m → i ≤ indexed_lines
      → (length y ≡ index_size) × (i ≤ indexed_lines) × (i ≤ length (lines t)) × Places i t y
  places_marked y m h e l =
      rw e
      (length-with_mark x m h ∙ R.size, l, (first_lines t i at R.passed).1, λ j k. holds-marked m h j (R.holds j k (omega arith)))

  module _ (e : ℕ) (at-end : e ≡ at + find_in newline (drop at t)) (more : e < length t) where
    abbrev line : List ℕ
    line = take (e - at) (drop at t)

    line-length : length line ≡ e - at
    line-length = length-take-le (e - at) (drop at t) (omega (arith, length-drop at t))

    pub no-atom : (leb 1 (e - at) && leb (e - at) longest_atom) ≡ false → fit n t ≡ false
    no-atom h =
        unfit-atoms n t
        (ap all_atoms (lines-here t i at R.passed e at-end more) ∙ atoms-spoiled (lines (take at t)) line _ (rw line-length h))

    pub stands-twice : among (lines (take at t)) line ≡ true → fit n t ≡ false
    stands-twice h = unfit-twice n t (ap distinct (lines-here t i at R.passed e at-end more) ∙ distinct-spoiled (lines (take at t)) line _ h)

    module _ (right : (leb 1 (e - at) && leb (e - at) longest_atom) ≡ true) (new : among (lines (take at t)) line ≡ false) where
      abbrev marked_index : List ℕ
      marked_index = with_mark x (atom_mark line)

      fits-mark : (a : List ℕ) → atom_mark a < mark_count
      fits-mark a = omega arith

      pub size-more : length marked_index ≡ index_size
      size-more = length-with_mark x (atom_mark line) (fits-mark line) ∙ R.size

      pub short-more : e + 1 ≤ (i + 1) * 65
      short-more = go (leb 1 (e - at)) right
        where
          go : (b : Bool) → (b && leb (e - at) longest_atom) ≡ true → e + 1 ≤ (i + 1) * 65
          go true h = omega (arith, R.short, leb-true (e - at) longest_atom h)
          go false h = absurd (false≢true h)

      atoms-are-more : all_atoms (lines (take (e + 1) t)) ≡ true
      atoms-are-more = ap all_atoms (lines_more t i at R.passed e at-end more) ∙ atoms-more (lines (take at t)) line (rw line-length right) R.are_atoms

      differ-more : distinct (lines (take (e + 1) t)) ≡ true
      differ-more = ap distinct (lines_more t i at R.passed e at-end more) ∙ distinct_more (lines (take at t)) line new R.differ

      marked_more : Marked (lines (take (e + 1) t)) marked_index
      marked_more a h =
          has-with_mark x (atom_mark line) (fits-mark line) R.size (atom_mark a)
          ∙ ⊎_elim
          (λ (m : among (lines (take at t)) a ≡ true). rw (R.marked a m))
          (λ (m : a ≡ line). rw (eq-eqb (atom_mark line) (atom_mark a) (ap atom_mark (sym m))) (or-true (has_mark x (atom_mark a))))
          (among_last (lines (take at t)) line a (sym (ap (λ (ls : List (List ℕ)). among ls a) (lines_more t i at R.passed e at-end more)) ∙ h))

      -- the index has no room for its place
      pub goes-past : indexed_lines < i + 1 → Reading t marked_index (i + 1) (e + 1)
      goes-past h = record {
        size = size-more;
        passed = passed-more t i at R.passed e at-end more;
        short = short-more;
        are_atoms = atoms-are-more;
        differ = differ-more;
        marked = marked_more;
        begins = λ k. absurd (omega arith);
        holds = λ j l k. holds-marked (atom_mark line) (fits-mark line) j (R.holds j (omega arith) k);
      }

      -- it has
      pub goes_on : i + 1 ≤ indexed_lines → Reading t (with_number marked_index (i + 1) (e + 1)) (i + 1) (e + 1)
      goes_on h = record {
        size = length-with_number marked_index (i + 1) (e + 1) ∙ size-more;
        passed = passed-more t i at R.passed e at-end more;
        short = short-more;
        are_atoms = atoms-are-more;
        differ = differ-more;
        marked = λ a m. mark-with_number marked_index (i + 1) (e + 1) (atom_mark a) (fits-mark a) ∙ marked_more a m;
        begins = λ k. here;
        holds = λ j l k. ⊎_elim (λ (u : j < i). earlier j u k) (λ (u : i ≤ j). let w : j ≡ i = omega arith in rw w last) (by_lt j i);
      }
        where
          here : number_at (with_number marked_index (i + 1) (e + 1)) (i + 1) ≡ e + 1
          here = number-with-same marked_index (i + 1) (e + 1) size-more (omega arith)

          other : (k : ℕ) → (k ≡ i + 1 → ⊥) → number_at (with_number marked_index (i + 1) (e + 1)) k ≡ number_at marked_index k
          other k u = number-with-other marked_index (i + 1) (e + 1) k u

          earlier : (j : ℕ) → j < i → j < indexed_lines → Holds t (with_number marked_index (i + 1) (e + 1)) j
          earlier j u k = holds-still t marked_index (with_number marked_index (i + 1) (e + 1)) j (other j (λ q. omega arith)) (other (j + 1) (λ q. omega arith)) (holds-marked (atom_mark line) (fits-mark line) j (R.holds j u k))

          from : number_at (with_number marked_index (i + 1) (e + 1)) i ≡ at
          from = other i (λ q. omega arith) ∙ number-with_mark x (atom_mark line) (fits-mark line) i ∙ R.begins (omega arith)

          last : Holds t (with_number marked_index (i + 1) (e + 1)) i
          last =
              let k : e + 1 - 1 - at ≡ e - at = omega arith in
              record {
                before = rw (from, here) (omega arith);
                within = rw here (omega arith);
                line_is = rw (from, here, k) (sym (line-here t i at R.passed e at-end more));
              }

  -- the next line has no end, or is no atom
  pub no-line : at < length t → None ≡ atom_end t at → fit n t ≡ false
  no-line h q =
      ⊎_elim
      (λ (l : length (drop at t) ≤ find_in newline (drop at t)). no-newline h (omega (arith, length-drop at t)))
      (λ (l : (at + find_in newline (drop at t) < length t) × ((leb 1 (find_in newline (drop at t)) && leb (find_in newline (drop at t)) longest_atom) ≡ false)).
      let k : at + find_in newline (drop at t) - at ≡ find_in newline (drop at t) = omega arith in
      no-atom (at + find_in newline (drop at t)) refl l.0 (rw k l.1))
      (end-missed t at h q)

  -- ---- the end

  module _ (read : length t ≤ at) where
    whole : take at t ≡ t
    whole = (all_passed t i at R.passed read).0

    count : i ≡ length (lines t)
    count = (all_passed t i at R.passed read).1

    pub too_few : i < n → fit n t ≡ false
    too_few h = unfit-few n t (omega (arith, count))

    pub too_many : n + group_atoms < i → fit n t ≡ false
    too_many h = unfit-many n t (omega (arith, count))

    pub no-book : None ≡ groups_behind i n → fit n t ≡ false
    no-book h = ⊎_elim (λ (k : i < n). too_few k) (λ (k : n + group_atoms < i). too_many k) (groups-uncounted i n h)

    module _ (enough : n ≤ i) (few : i ≤ n + group_atoms) where
      pub is-book : fit n t ≡ true
      unfolding fit
      is-book =
          let a : ended t ≡ true = sym (ap ended whole) ∙ R.passed.whole in
          let b : all_atoms (lines t) ≡ true = sym (ap (λ (s : List ℕ). all_atoms (lines s)) whole) ∙ R.are_atoms in
          let d : distinct (lines t) ≡ true = sym (ap (λ (s : List ℕ). distinct (lines s)) whole) ∙ R.differ in
          rw (a, b, d, le-leb n (length (lines t)) (omega (arith, count)), le-leb (length (lines t)) (n + group_atoms) (omega (arith, count)))

      pub is-noted : Noted n t (with_number x group_number (i - n))
      is-noted = record {
        size = length-with_number x group_number (i - n) ∙ R.size;
        fits = is-book;
        holds =
            λ j h k.
            holds-still t x (with_number x group_number (i - n)) j (number-with-other x group_number (i - n) j (λ q. omega arith)) (number-with-other x group_number (i - n) (j + 1) (λ q. omega arith))
            (R.holds j (omega (arith, count)) h);
        groups = number-with-same x group_number (i - n) R.size (omega arith) ∙ omega (arith, count, length-drop n (lines t));
      }
