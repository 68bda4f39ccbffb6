-- Laws of lines: the first of them, those of two texts, and where a text ends. Assumes nothing.
use Rattle.std.specs.Prelude.{◌≡◌, refl, Bool, true, false, cond, List, [], ◌∷◌, ◌++◌, ℕ, suc, ◌+◌, ◌-◌, ◌≤◌, ◌<◌, eqb, length, take, drop, Some, None}
use Rattle.std.proofs.Common.{sym, ◌∙◌, add-one, le_refl, arith}
use Rattle.text.specs.Text.{newline, find_in, found_in}
use Rattle.text.specs.FieldLaws.{found_some, found_none}
use Rattle.book.specs.Book.{in_front, lines, ended}

-- ---- the first line

-- a newline ends the first line
pub lines-first : (t : List ℕ) → find_in newline t < length t → lines t ≡ take (find_in newline t) t ∷ lines (drop (suc (find_in newline t)) t)
unfolding find_in lines
lines-first [] h = absurd (omega arith)
lines-first (x ∷ xs) h = go (eqb x newline) h (lines-first xs)
  where
    go : (t : Bool) → cond t 0 (suc (find_in newline xs)) < suc (length xs)
        → (find_in newline xs < length xs → lines xs ≡ take (find_in newline xs) xs ∷ lines (drop (suc (find_in newline xs)) xs))
        → cond t ([] ∷ lines xs) (in_front x (lines xs))
        ≡ take (cond t 0 (suc (find_in newline xs))) (x ∷ xs) ∷ lines (drop (suc (cond t 0 (suc (find_in newline xs)))) (x ∷ xs))
    go true h f = refl
    go false h f = rw (f (omega arith))

-- without one there is none
pub lines_none : (t : List ℕ) → length t ≤ find_in newline t → lines t ≡ []
unfolding find_in lines
lines_none [] h = refl
lines_none (x ∷ xs) h = go (eqb x newline) h (lines_none xs)
  where
    go : (t : Bool) → suc (length xs) ≤ cond t 0 (suc (find_in newline xs)) → (length xs ≤ find_in newline xs → lines xs ≡ [])
        → cond t ([] ∷ lines xs) (in_front x (lines xs)) ≡ []
    go true h f = absurd (omega arith)
    go false h f = rw (f (omega arith))

-- so the first line ends where a newline is found, and the others stand behind it
pub lines-next : (t : List ℕ) (e : ℕ) → Some e ≡ found_in newline t → lines t ≡ take e t ∷ lines (drop (e + 1) t)
lines-next t e h =
    let f = found_some newline e t h in
    rw (lines-first t (omega (arith, f)), ← f.0, add-one)

pub line-within : (t : List ℕ) (e : ℕ) → Some e ≡ found_in newline t → e < length t
line-within t e h = (found_some newline e t h).1

pub lines-over : (t : List ℕ) → None ≡ found_in newline t → lines t ≡ []
lines-over t h = lines_none t (found_none newline t h)

-- the next line
pub ruleset next_line = (lines-next, line-within, lines-over)

-- a text has no more lines than bytes
pub lines-count : (t : List ℕ) → length (lines t) ≤ length t
unfolding lines
lines-count [] = le_refl 0
lines-count (x ∷ xs) = go (eqb x newline) (lines xs) (lines-count xs)
  where
    go : (t : Bool) (ls : List (List ℕ)) → length ls ≤ length xs → length (cond t ([] ∷ ls) (in_front x ls)) ≤ suc (length xs)
    go true ls h = omega arith
    go false [] h = omega arith
    go false (l ∷ ls) h = omega arith

-- ---- the end

ended-cons : (x y : ℕ) (ys : List ℕ) → ended (x ∷ y ∷ ys) ≡ ended (y ∷ ys)
unfolding ended
ended-cons x y ys =
    let a : suc (suc (length ys)) - 1 ≡ suc (length ys) = omega arith in
    let b : suc (length ys) - 1 ≡ length ys = omega arith in
    rw (a, b)

-- bytes without a newline among them have no end
pub ended-without : (t : List ℕ) → 0 < length t → length t ≤ find_in newline t → ended t ≡ false
unfolding find_in ended
ended-without [] p h = absurd (omega arith)
ended-without (x ∷ []) p h = go (eqb x newline) h
  where
    go : (t : Bool) → 1 ≤ cond t 0 1 → t ≡ false
    go true h = absurd (omega arith)
    go false h = refl
ended-without (x ∷ y ∷ ys) p h = ended-cons x y ys ∙ go (eqb x newline) h (ended-without (y ∷ ys) (omega arith))
  where
    go : (t : Bool) → suc (suc (length ys)) ≤ cond t 0 (suc (find_in newline (y ∷ ys))) → (suc (length ys) ≤ find_in newline (y ∷ ys) → ended (y ∷ ys) ≡ false)
        → ended (y ∷ ys) ≡ false
    go true h f = absurd (omega arith)
    go false h f = f (omega arith)

-- a text with an end has a line
ended_some : (x : ℕ) (xs : List ℕ) → ended (x ∷ xs) ≡ true → 0 < length (lines (x ∷ xs))
unfolding ended lines
ended_some x [] e = rw e (omega arith)
ended_some x (y ∷ ys) e = go (eqb x newline) (lines (y ∷ ys)) (ended_some y ys (sym (ended-cons x y ys) ∙ e))
  where
    go : (t : Bool) (ls : List (List ℕ)) → 0 < length ls → 0 < length (cond t ([] ∷ ls) (in_front x ls))
    go true ls h = omega arith
    go false [] h = absurd (omega arith)
    go false (l ∷ ls) h = omega arith

-- ---- two texts

pub ended-append : (s t : List ℕ) → ended s ≡ true → ended (s ++ t) ≡ ended t
unfolding ended
ended-append [] t e = refl
ended-append (x ∷ []) [] e = e
ended-append (x ∷ []) (y ∷ ys) e = ended-cons x y ys
ended-append (x ∷ y ∷ ys) t e = ended-cons x y (ys ++ t) ∙ ended-append (y ∷ ys) t (sym (ended-cons x y ys) ∙ e)

pub lines-append : (s t : List ℕ) → ended s ≡ true → lines (s ++ t) ≡ lines s ++ lines t
unfolding lines ended
lines-append [] t e = refl
lines-append (x ∷ []) t e = rw e
lines-append (x ∷ y ∷ ys) t e =
    let f : ended (y ∷ ys) ≡ true = sym (ended-cons x y ys) ∙ e in
    rw (lines-append (y ∷ ys) t f) (go (eqb x newline) (lines (y ∷ ys)) (ended_some y ys f))
  where
    go : (b : Bool) (ls : List (List ℕ)) → 0 < length ls → cond b ([] ∷ ls ++ lines t) (in_front x (ls ++ lines t)) ≡ cond b ([] ∷ ls) (in_front x ls) ++ lines t
    go true ls h = refl
    go false [] h = absurd (omega arith)
    go false (l ∷ ls) h = refl
