-- Laws of an index whose hints are written, and of the book that it is for. Assumes nothing.
use Rattle.std.specs.Prelude.{◌≡◌, refl, Bool, true, false, ◌&&◌, List, ℕ, ◌+◌, ◌≤◌, ◌<◌, leb, length, set}
use Rattle.std.proofs.Common.{sym, ◌∙◌, ⊎_elim, arith, leb-true, length-set, length-drop, get_or-set_same, get_or-set_other}
use Rattle.std.proofs.lemmas.Bool.{false≢true}
use Rattle.nodes.specs.Bools.{by_eq}
use Rattle.book_index.specs.Layout.{hint_count, number_at, cleared}
use Rattle.book_index.specs.LayoutLaws.{number-set, hint-cleared, length-cleared, number-cleared}
use Rattle.book.specs.Book.{group_atoms, lines, ended, all_atoms, distinct, fit}
use Rattle.book.specs.Index.{indexed_lines, group_number, Noted, Indexed}
use Rattle.book.specs.Reading.{holds-still}

-- ---- what is known of a book

record Known (n : ℕ) (t : List ℕ) : Type 0 where
  differ : distinct (lines t) ≡ true
  enough : n ≤ length (lines t)
  few : length (lines t) ≤ n + group_atoms

known : (n : ℕ) (t : List ℕ) → fit n t ≡ true → Known n t
unfolding fit
known n t h = go (ended t) (all_atoms (lines t)) (distinct (lines t)) refl (leb n (length (lines t))) refl (leb (length (lines t)) (n + group_atoms)) refl h
  where
    go : (a b d : Bool) → distinct (lines t) ≡ d → (e : Bool) → leb n (length (lines t)) ≡ e → (f : Bool) → leb (length (lines t)) (n + group_atoms) ≡ f
        → (a && b && d && e && f) ≡ true → Known n t
    go true true true p true q true r h = record { differ = p; enough = leb-true n (length (lines t)) q; few = leb-true (length (lines t)) (n + group_atoms) r }
    go true true true p true q false r h = absurd (false≢true h)
    go true true true p false q f r h = absurd (false≢true h)
    go true true false p e q f r h = absurd (false≢true h)
    go true false d p e q f r h = absurd (false≢true h)
    go false b d p e q f r h = absurd (false≢true h)

-- no line stands twice
pub fit-distinct : (n : ℕ) (t : List ℕ) → fit n t ≡ true → distinct (lines t) ≡ true
fit-distinct n t h = (known n t h).differ

-- there is a line for each node
pub fit-enough : (n : ℕ) (t : List ℕ) → fit n t ≡ true → n ≤ length (lines t)
fit-enough n t h = (known n t h).enough

-- and not too many for groups
pub fit-few : (n : ℕ) (t : List ℕ) → fit n t ≡ true → length (lines t) ≤ n + group_atoms
fit-few n t h = (known n t h).few

-- so many lines it has
pub line-count : (n : ℕ) (t x : List ℕ) → Noted n t x → n + number_at x group_number ≡ length (lines t)
line-count n t x N = omega (arith, N.groups, length-drop n (lines t), fit-enough n t N.fits)

-- ---- what is known of its index

-- the numbers alone decide what is noted
noted-still : (n : ℕ) (t x y : List ℕ) → length y ≡ length x → ((j : ℕ) → number_at y j ≡ number_at x j) → Noted n t x → Noted n t y
noted-still n t x y l e N = record {
  size = l ∙ N.size;
  fits = N.fits;
  holds = λ j h k. holds-still t x y j (e j) (e (j + 1)) (N.holds j h k);
  groups = e group_number ∙ N.groups;
}

-- an index without a hint
pub indexed-none : (n : ℕ) (t x : List ℕ) → Noted n t x → Indexed n t (cleared x)
indexed-none n t x N = record {
  noted = noted-still n t x (cleared x) (length-cleared x N.size ∙ sym N.size) (number-cleared x) N;
  hints = λ k h. rw (hint-cleared x k h) (omega arith, omega arith);
}

-- with one more
pub indexed-more : (n : ℕ) (t x : List ℕ) (k v : ℕ) → Indexed n t x → k < hint_count → v ≤ indexed_lines → v ≤ length (lines t) → Indexed n t (set x k v)
indexed-more n t x k v I h a b = record {
  noted = noted-still n t x (set x k v) (length-set x k v) (λ j. number-set x k v j h) I.noted;
  hints =
      λ m l.
      ⊎_elim (λ (e : m ≡ k). rw (e, get_or-set_same x k v 0 (omega (arith, I.noted.size))) (a, b)) (λ (e : m ≡ k → ⊥). rw (get_or-set_other x k m v 0 e) (I.hints m l))
      (by_eq m k);
}
