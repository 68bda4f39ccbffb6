-- Laws of `find_in` and `fields`: the first field, and those behind it. Assumes nothing.
use Rattle.std.specs.Prelude.{◌≡◌, refl, Bool, true, false, cond, List, [], ◌∷◌, ℕ, suc, ◌≤◌, ◌<◌, eqb, ltb, length, take, drop, Some, None}
use Rattle.std.specs.List.{slice_split, onto_first, position_or_len}
use Rattle.std.proofs.lemmas.List.Recursion.{is_position_or_len}
use Rattle.std.proofs.Common.{le_refl, arith, ltb-true, ltb-false}
use Rattle.std.proofs.Math.Numerals.{one-add}
use Rattle.text.specs.Text.{space, find_in, found_in, in_front, fields}

-- a byte is found within the list
pub find-within : (b : ℕ) (s : List ℕ) → find_in b s ≤ length s
unfolding find_in
find-within b [] = le_refl 0
find-within b (x ∷ xs) = go (eqb x b) (find-within b xs)
  where
    go : (t : Bool) → find_in b xs ≤ length xs → cond t 0 (suc (find_in b xs)) ≤ suc (length xs)
    go true h = omega arith
    go false h = omega arith

-- where one is found, it is the first, and within the list
pub found_some : (b i : ℕ) (s : List ℕ) → Some i ≡ found_in b s → (i ≡ find_in b s) × (i < length s)
unfolding found_in
found_some b i s h = go (ltb (find_in b s) (length s)) refl h
  where
    go : (t : Bool) → ltb (find_in b s) (length s) ≡ t → Some i ≡ cond t (Some (find_in b s)) None → (i ≡ find_in b s) × (i < length s)
    go true e f = let g : i ≡ find_in b s = cc in let l = ltb-true _ _ e in (omega arith, omega arith)
    go false e f = absurd (cc)

-- where none is, the list is passed
pub found_none : (b : ℕ) (s : List ℕ) → None ≡ found_in b s → length s ≤ find_in b s
unfolding found_in
found_none b s h = go (ltb (find_in b s) (length s)) refl h
  where
    go : (t : Bool) → ltb (find_in b s) (length s) ≡ t → None ≡ cond t (Some (find_in b s)) None → length s ≤ find_in b s
    go true e f = absurd (cc)
    go false e f = ltb-false _ _ e

-- a space ends the first field
pub fields-first : (t : List ℕ) → find_in space t < length t → fields t ≡ take (find_in space t) t ∷ fields (drop (suc (find_in space t)) t)
unfolding find_in fields
fields-first [] h = absurd (omega arith)
fields-first (x ∷ xs) h = go (eqb x space) h (fields-first xs)
  where
    go : (t : Bool) → cond t 0 (suc (find_in space xs)) < suc (length xs)
        → (find_in space xs < length xs → fields xs ≡ take (find_in space xs) xs ∷ fields (drop (suc (find_in space xs)) xs))
        → cond t ([] ∷ fields xs) (in_front x (fields xs))
        ≡ take (cond t 0 (suc (find_in space xs))) (x ∷ xs) ∷ fields (drop (suc (cond t 0 (suc (find_in space xs)))) (x ∷ xs))
    go true h f = refl
    go false h f = rw (f (omega arith))

-- without one, all that is left is the last
pub fields-last : (t : List ℕ) → length t ≤ find_in space t → fields t ≡ t ∷ []
unfolding find_in fields
fields-last [] h = refl
fields-last (x ∷ xs) h = go (eqb x space) h (fields-last xs)
  where
    go : (t : Bool) → suc (length xs) ≤ cond t 0 (suc (find_in space xs)) → (length xs ≤ find_in space xs → fields xs ≡ xs ∷ [])
        → cond t ([] ∷ fields xs) (in_front x (fields xs)) ≡ (x ∷ xs) ∷ []
    go true h f = absurd (omega arith)
    go false h f = rw (f (omega arith))

-- a line has a field
pub fields-some : (s : List ℕ) → 0 < length (fields s)
unfolding fields
fields-some [] = omega arith
fields-some (x ∷ xs) = go (eqb x space) (fields xs) (fields-some xs)
  where
    go : (t : Bool) (fs : List (List ℕ)) → 0 < length fs → 0 < length (cond t ([] ∷ fs) (in_front x fs))
    go true fs h = omega arith
    go false [] h = absurd (omega arith)
    go false (f ∷ fs) h = omega arith

-- a byte more in front makes one more field where it is a space, and none otherwise
pub fields-longer : (x : ℕ) (xs : List ℕ) → length (fields (x ∷ xs)) ≡ cond (eqb x space) (suc (length (fields xs))) (length (fields xs))
unfolding fields
fields-longer x xs = go (eqb x space) (fields xs) (fields-some xs)
  where
    go : (t : Bool) (fs : List (List ℕ)) → 0 < length fs → length (cond t ([] ∷ fs) (in_front x fs)) ≡ cond t (suc (length fs)) (length fs)
    go true fs h = refl
    go false [] h = absurd (omega arith)
    go false (f ∷ fs) h = refl

-- the fields are the parts of a line that is cut at each space
pub fields-split : (s : List ℕ) → fields s ≡ slice_split (λ b. eqb b space) s
unfolding fields
fields-split [] = refl
fields-split (x ∷ xs) = go (eqb x space) (fields xs) (slice_split (λ b. eqb b space) xs) (fields-split xs)
  where
    put : (x : ℕ) (fs : List (List ℕ)) → in_front x fs ≡ onto_first x fs
    put x [] = refl
    put x (f ∷ fs) = refl

    go : (t : Bool) (fs gs : List (List ℕ)) → fs ≡ gs → cond t ([] ∷ fs) (in_front x fs) ≡ cond t ([] ∷ gs) (onto_first x gs)
    go t fs gs e = rw (e, put)

-- a byte is found where it is the first to pass the test
pub find-position : (b : ℕ) (s : List ℕ) → find_in b s ≡ position_or_len (λ x. eqb x b) s
unfolding find_in
find-position b s = is_position_or_len (find_in b) (λ x. eqb x b) refl (λ x xs. rw one-add) s
