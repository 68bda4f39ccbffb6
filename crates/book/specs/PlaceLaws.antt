-- Laws of lines that are told apart, and of the place of an atom among them. Assumes nothing.
use Rattle.std.specs.Prelude.{◌≡◌, refl, ◌⊎◌, Bool, true, false, not, ◌&&◌, ◌||◌, cond, List, [], ◌∷◌, ◌++◌, ℕ, zero, suc, ◌+◌, ◌-◌, ◌≤◌, ◌<◌, leb, ltb, length, get_or, take, drop}
use Rattle.std.specs.List.{position, position_or_len}
use Rattle.std.proofs.lemmas.List.Recursion.{is_position_or_len}
use Rattle.std.proofs.Math.Numerals.{one-add}
use Rattle.std.proofs.Common.{sym, ap, ◌∙◌, inl, inr, ⊎_elim, true≢false, add-one, arith, lt-ltb, le-ltb, take-suc, get_or-take, length-take-le}
use Rattle.std.proofs.lemmas.Bool.{false≢true, not-true}
use Rattle.std.proofs.Math.Bool.{and-false, or-true, or-false}
use Rattle.nodes.specs.Bools.{by_lt}
use Rattle.tokens.specs.Reserved.{same, among}
use Rattle.tokens.specs.Words.{same_eq, same_refl, same_by}
use Rattle.book.specs.Book.{longest_atom, all_atoms, distinct, place_of, found_among}

-- ---- two tests

both : (a b : Bool) → (a && b) ≡ true → (a ≡ true) × (b ≡ true)
both true b h = (refl, h)
both false b h = absurd (let z : ◌≡◌ {A = ℕ} 0 1 = cc in omega arith)

same_turn : (a b : List ℕ) → same a b ≡ same b a
same_turn a b = same_by a b (same b a) (λ h. sym (same_eq b a h)) (λ h. rw h (same_refl b))

neither : (a b : Bool) → (a || b) ≡ false → (a ≡ false) × (b ≡ false)
neither true b h = absurd (true≢false h)
neither false b h = (refl, h)

-- ---- lines behind lines

all_atoms-append : (xs ys : List (List ℕ)) → all_atoms (xs ++ ys) ≡ all_atoms xs && all_atoms ys
unfolding all_atoms
all_atoms-append [] ys = refl
all_atoms-append (x ∷ xs) ys = rw (all_atoms-append xs ys) (regroup (leb 1 (length x) && leb (length x) longest_atom) (all_atoms xs) (all_atoms ys))
  where
    regroup : (a b d : Bool) → (a && (b && d)) ≡ ((a && b) && d)
    regroup true b d = refl
    regroup false b d = refl

among-append : (xs ys : List (List ℕ)) (a : List ℕ) → among (xs ++ ys) a ≡ among xs a || among ys a
unfolding among
among-append [] ys a = refl
among-append (x ∷ xs) ys a = rw (among-append xs ys a) (regroup (same a x) (among xs a) (among ys a))
  where
    regroup : (a b d : Bool) → (a || (b || d)) ≡ ((a || b) || d)
    regroup true b d = refl
    regroup false b d = refl

module _ (xs : List (List ℕ)) (l : List ℕ) where
  -- one line more that is an atom
  pub atoms-more : (leb 1 (length l) && leb (length l) longest_atom) ≡ true → all_atoms xs ≡ true → all_atoms (xs ++ l ∷ []) ≡ true
  unfolding all_atoms
  atoms-more h e = rw (all_atoms-append xs (l ∷ []), e, h)

  -- one that is none
  pub atoms-spoiled : (ys : List (List ℕ)) → (leb 1 (length l) && leb (length l) longest_atom) ≡ false → all_atoms (xs ++ l ∷ ys) ≡ false
  unfolding all_atoms
  atoms-spoiled ys h = rw (all_atoms-append xs (l ∷ ys), h) (and-false (all_atoms xs))

  among-more : (a : List ℕ) → among (xs ++ l ∷ []) a ≡ among xs a || same a l
  unfolding among
  among-more a = rw (among-append xs (l ∷ []) a, or-false (same a l))

  -- an atom among the lines with one more is among the others, or is that one
  pub among_last : (a : List ℕ) → among (xs ++ l ∷ []) a ≡ true → (among xs a ≡ true) ⊎ (a ≡ l)
  among_last a h = go (among xs a) refl (sym (among-more a) ∙ h)
    where
      go : (t : Bool) → among xs a ≡ t → (t || same a l) ≡ true → (among xs a ≡ true) ⊎ (a ≡ l)
      go true e f = inl e
      go false e f = inr (same_eq a l f)

-- one line more that is new
pub distinct_more : (xs : List (List ℕ)) (l : List ℕ) → among xs l ≡ false → distinct xs ≡ true → distinct (xs ++ l ∷ []) ≡ true
unfolding distinct among
distinct_more [] l h e = refl
distinct_more (x ∷ xs) l h e =
    let p = both (not (among xs x)) (distinct xs) e in
    let q = neither (same l x) (among xs l) h in
    rw (among-more xs l x, same_turn x l, q.0, or-false (among xs x), p.0, distinct_more xs l q.1 p.1)

-- one that is there already
pub distinct-spoiled : (xs : List (List ℕ)) (l : List ℕ) (ys : List (List ℕ)) → among xs l ≡ true → distinct (xs ++ l ∷ ys) ≡ false
unfolding distinct among
distinct-spoiled [] l ys h = absurd (false≢true h)
distinct-spoiled (x ∷ xs) l ys h = go (same l x) refl h (distinct-spoiled xs l ys)
  where
    go : (t : Bool) → same l x ≡ t → (t || among xs l) ≡ true → (among xs l ≡ true → distinct (xs ++ l ∷ ys) ≡ false)
        → (not (among (xs ++ l ∷ ys) x) && distinct (xs ++ l ∷ ys)) ≡ false
    go true e f g = rw (among-append xs (l ∷ ys) x, same_turn x l, e, or-true (among xs x))
    go false e f g = rw (g f) (and-false (not (among (xs ++ l ∷ ys) x)))

-- ---- places

pub place-within : (a : List ℕ) (ls : List (List ℕ)) → place_of a ls ≤ length ls
unfolding place_of
place-within a [] = omega arith
place-within a (l ∷ ls) = go (same a l) (place-within a ls)
  where
    go : (t : Bool) → place_of a ls ≤ length ls → cond t 0 (suc (place_of a ls)) ≤ suc (length ls)
    go true h = omega arith
    go false h = omega arith

ltb-suc : (m n : ℕ) → ltb (suc m) (suc n) ≡ ltb m n
ltb-suc m n =
    ⊎_elim (λ (h : m < n). rw (lt-ltb m n h, lt-ltb (suc m) (suc n) (omega arith))) (λ (h : n ≤ m). rw (le-ltb m n h, le-ltb (suc m) (suc n) (omega arith)))
    (by_lt m n)

-- an atom is found within the lines exactly where it is one of them
pub place-among : (a : List ℕ) (ls : List (List ℕ)) → ltb (place_of a ls) (length ls) ≡ among ls a
unfolding place_of among
place-among a [] = refl
place-among a (l ∷ ls) = go (same a l) (place-among a ls)
  where
    go : (t : Bool) → ltb (place_of a ls) (length ls) ≡ among ls a → ltb (cond t 0 (suc (place_of a ls))) (suc (length ls)) ≡ (t || among ls a)
    go true h = lt-ltb 0 (suc (length ls)) (omega arith)
    go false h = ltb-suc (place_of a ls) (length ls) ∙ h

place-position : (a : List ℕ) (ls : List (List ℕ)) → place_of a ls ≡ position_or_len (same a) ls
unfolding place_of
place-position a ls = is_position_or_len (place_of a) (same a) refl (λ x xs. rw one-add) ls

-- so it is found where the first line is that is the atom
pub found_position : (a : List ℕ) (ls : List (List ℕ)) → position (same a) ls ≡ found_among a ls
unfolding found_among
found_position a ls = rw (← place-among a ls, place-position a ls)

among-own : (ls : List (List ℕ)) (i : ℕ) → i < length ls → among ls (get_or ls i []) ≡ true
unfolding among
among-own [] i h = absurd (omega arith)
among-own (l ∷ ls) zero h = rw (same_refl l)
among-own (l ∷ ls) (suc i) h = rw (among-own ls i (omega arith)) (or-true (same (get_or ls i []) l))

-- an atom that is one of the first n lines is among them
pub among-first-own : (n : ℕ) (a : List ℕ) (ls : List (List ℕ)) (j : ℕ) → j < n → n ≤ length ls → same a (get_or ls j []) ≡ true → among (take n ls) a ≡ true
among-first-own n a ls j h l e =
    ap (among (take n ls)) (same_eq a (get_or ls j []) e ∙ sym (get_or-take n ls j [] h)) ∙ among-own (take n ls) j (omega (arith, length-take-le n ls l))

-- one that is none of them, and not the next, is none with that one
pub among-first-more : (j : ℕ) (a : List ℕ) (ls : List (List ℕ)) → j < length ls → among (take j ls) a ≡ false → same a (get_or ls j []) ≡ false → among (take (j + 1) ls) a ≡ false
among-first-more j a ls h e f = rw (add-one j, take-suc ls j [] h, among-more (take j ls) (get_or ls j []) a, e, f)

-- lines that are told apart have each its own place
pub place-own : (ls : List (List ℕ)) (i : ℕ) → distinct ls ≡ true → i < length ls → place_of (get_or ls i []) ls ≡ i
unfolding distinct place_of among
place-own [] i d h = absurd (omega arith)
place-own (l ∷ ls) zero d h = rw (same_refl l)
place-own (l ∷ ls) (suc i) d h =
    let p = both (not (among ls l)) (distinct ls) d in
    rw (apart, place-own ls i p.1 (omega arith))
  where
    apart : same (get_or ls i []) l ≡ false
    apart = go (same (get_or ls i []) l) refl
      where
        go : (t : Bool) → same (get_or ls i []) l ≡ t → t ≡ false
        go true e = absurd (true≢false (sym (among-own ls i (omega arith)) ∙ ap (among ls) (same_eq (get_or ls i []) l e) ∙ not-true (among ls l) (both (not (among ls l)) (distinct ls) d).0))
        go false e = refl

-- ---- the first n lines, and the others

-- an atom that stands in front of n is found among the first n
pub place_in-first : (n : ℕ) (a : List ℕ) (ls : List (List ℕ)) → place_of a ls < n → n ≤ length ls → place_of a (take n ls) ≡ place_of a ls
unfolding place_of
place_in-first zero a ls h l = absurd (omega arith)
place_in-first (suc n) a [] h l = absurd (omega arith)
place_in-first (suc n) a (x ∷ xs) h l = go (same a x) h (place_in-first n a xs)
  where
    go : (t : Bool) → cond t 0 (suc (place_of a xs)) < suc n → (place_of a xs < n → n ≤ length xs → place_of a (take n xs) ≡ place_of a xs)
        → cond t 0 (suc (place_of a (take n xs))) ≡ cond t 0 (suc (place_of a xs))
    go true h f = refl
    go false h f = ap suc (f (omega arith) (omega arith))

-- one that stands behind them is none of them, and is found by its place behind them among the others
pub place_past_first : (n : ℕ) (a : List ℕ) (ls : List (List ℕ)) → n ≤ place_of a ls → n ≤ length ls
    → (place_of a (take n ls) ≡ n) × (place_of a (drop n ls) ≡ place_of a ls - n)
unfolding place_of
place_past_first zero a ls h l = (refl, omega arith)
place_past_first (suc n) a [] h l = absurd (omega arith)
place_past_first (suc n) a (x ∷ xs) h l = go (same a x) h (place_past_first n a xs)
  where
    go : (t : Bool) → suc n ≤ cond t 0 (suc (place_of a xs))
        → (n ≤ place_of a xs → n ≤ length xs → (place_of a (take n xs) ≡ n) × (place_of a (drop n xs) ≡ place_of a xs - n))
        → (cond t 0 (suc (place_of a (take n xs))) ≡ suc n) × (place_of a (drop n xs) ≡ cond t 0 (suc (place_of a xs)) - suc n)
    go true h f = absurd (omega arith)
    go false h f = let p = f (omega arith) (omega arith) in (ap suc p.0, p.1 ∙ omega arith)

-- an atom that is none of the lines has the place behind them
pub place_none : (a : List ℕ) (ls : List (List ℕ)) → among ls a ≡ false → place_of a ls ≡ length ls
unfolding place_of among
place_none a [] h = refl
place_none a (l ∷ ls) h = let p = neither (same a l) (among ls a) h in rw p.0 (ap suc (place_none a ls p.1))

among-drop : (n : ℕ) (a : List ℕ) (ls : List (List ℕ)) → among ls a ≡ false → among (drop n ls) a ≡ false
unfolding among
among-drop zero a ls h = h
among-drop (suc n) a [] h = refl
among-drop (suc n) a (l ∷ ls) h = among-drop n a ls (neither (same a l) (among ls a) h).1

-- where no line stands twice, an atom that stands among the first n is none of the others
pub place-not-past : (n : ℕ) (a : List ℕ) (ls : List (List ℕ)) → distinct ls ≡ true → place_of a ls < n → n ≤ length ls
    → place_of a (drop n ls) ≡ length (drop n ls)
unfolding place_of distinct
place-not-past zero a ls d h l = absurd (omega arith)
place-not-past (suc n) a [] d h l = absurd (omega arith)
place-not-past (suc n) a (x ∷ xs) d h l =
    let p = both (not (among xs x)) (distinct xs) d in
    go (same a x) refl h (not-true (among xs x) p.0) (place-not-past n a xs p.1)
  where
    go : (t : Bool) → same a x ≡ t → cond t 0 (suc (place_of a xs)) < suc n → among xs x ≡ false
        → (place_of a xs < n → n ≤ length xs → place_of a (drop n xs) ≡ length (drop n xs)) → place_of a (drop n xs) ≡ length (drop n xs)
    go true e h m f = place_none a (drop n xs) (among-drop n a xs (ap (among xs) (same_eq a x e) ∙ m))
    go false e h m f = f (omega arith) (omega arith)
