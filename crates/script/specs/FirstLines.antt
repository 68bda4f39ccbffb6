-- Laws of lines: the first line from a place on, and those behind it. Assumes nothing.
use Rattle.std.specs.Prelude.{◌≡◌, refl, Bool, true, false, cond, List, [], ◌∷◌, ℕ, suc, ◌≤◌, ◌<◌, ◌+◌, ltb, eqb, leb, length, take, drop, Option, Some, None}
use Rattle.std.proofs.Common.{arith, lt-ltb, le-ltb, le-leb, ltb-true, ltb-false, length-take, length-drop, drop_of_length-le, drop-drop}
use Rattle.std.proofs.Math.Seq.{drop-length}
use Rattle.text.specs.Text.{newline, find_in, found_in}
use Rattle.text.specs.FieldLaws.{found_some, found_none}
use Rattle.line.specs.Requests.{request_of}
use Rattle.line.specs.declared.Request.{Request}
use Rattle.turns.specs.Turns.{request_turn}
use Rattle.script.specs.Scripts.{script_limit, Line, ended, cut, overlong, push, lines_of, one_line, lines_from, size_of, line_turn}

-- ---- the first line of bytes

-- the first line of bytes that are some
unfoldable pub first_line : List ℕ → Line
first_line s = cond (ltb (find_in newline s) (length s)) (ended (take (find_in newline s) s)) (cut s)

-- a newline ends it
line-ended : (s : List ℕ) → find_in newline s < length s → lines_of s ≡ ended (take (find_in newline s) s) ∷ lines_of (drop (suc (find_in newline s)) s)
unfolding find_in lines_of
line-ended [] h = absurd (omega arith)
line-ended (x ∷ xs) h = go (eqb x newline) h (line-ended xs)
  where
    go : (t : Bool) → cond t 0 (suc (find_in newline xs)) < suc (length xs)
        → (find_in newline xs < length xs → lines_of xs ≡ ended (take (find_in newline xs) xs) ∷ lines_of (drop (suc (find_in newline xs)) xs))
        → cond t (ended [] ∷ lines_of xs) (push x (lines_of xs))
        ≡ ended (take (cond t 0 (suc (find_in newline xs))) (x ∷ xs)) ∷ lines_of (drop (suc (cond t 0 (suc (find_in newline xs)))) (x ∷ xs))
    go true h f = refl
    go false h f = rw (f (omega arith))

-- without one, all that is left is the last
line-cut : (x : ℕ) (xs : List ℕ) → length (x ∷ xs) ≤ find_in newline (x ∷ xs) → lines_of (x ∷ xs) ≡ cut (x ∷ xs) ∷ []
unfolding find_in lines_of
line-cut x [] h = go (eqb x newline) h
  where
    go : (t : Bool) → 1 ≤ cond t 0 1 → cond t (ended [] ∷ []) (push x []) ≡ cut (x ∷ []) ∷ []
    go true h = absurd (omega arith)
    go false h = refl
line-cut x (y ∷ ys) h = go (eqb x newline) h (line-cut y ys)
  where
    go : (t : Bool) → suc (suc (length ys)) ≤ cond t 0 (suc (find_in newline (y ∷ ys)))
        → (suc (length ys) ≤ find_in newline (y ∷ ys) → lines_of (y ∷ ys) ≡ cut (y ∷ ys) ∷ [])
        → cond t (ended [] ∷ lines_of (y ∷ ys)) (push x (lines_of (y ∷ ys))) ≡ cut (x ∷ y ∷ ys) ∷ []
    go true h f = absurd (omega arith)
    go false h f = rw (f (omega arith))

pub lines-first : (s : List ℕ) → 0 < length s → lines_of s ≡ first_line s ∷ lines_of (drop (size_of (first_line s)) s)
unfolding first_line size_of lines_of
lines-first [] h = absurd (omega arith)
lines-first (x ∷ xs) h = go (ltb (find_in newline (x ∷ xs)) (suc (length xs))) refl
  where
    go : (t : Bool) → ltb (find_in newline (x ∷ xs)) (suc (length xs)) ≡ t
        → lines_of (x ∷ xs)
        ≡ cond t (ended (take (find_in newline (x ∷ xs)) (x ∷ xs))) (cut (x ∷ xs))
        ∷ lines_of (drop (size_of (cond t (ended (take (find_in newline (x ∷ xs)) (x ∷ xs))) (cut (x ∷ xs)))) (x ∷ xs))
    go true e =
        let l : find_in newline (x ∷ xs) < length (x ∷ xs) = ltb-true _ _ e in
        let k : length (take (find_in newline (x ∷ xs)) (x ∷ xs)) + 1 ≡ suc (find_in newline (x ∷ xs)) = omega (arith, length-take (find_in newline (x ∷ xs)) (x ∷ xs)) in
        rw k (line-ended (x ∷ xs) l)
    go false e = rw (drop-length xs) (line-cut x xs (ltb-false _ _ e))

-- it has a byte at least, and is no longer than the bytes
pub size_first : (s : List ℕ) → 0 < length s → (0 < size_of (first_line s)) × (size_of (first_line s) ≤ length s)
unfolding first_line size_of
size_first s h = go (ltb (find_in newline s) (length s)) refl
  where
    go : (t : Bool) → ltb (find_in newline s) (length s) ≡ t
        → (0 < size_of (cond t (ended (take (find_in newline s) s)) (cut s))) × (size_of (cond t (ended (take (find_in newline s) s)) (cut s)) ≤ length s)
    go true e =
        let l : find_in newline s < length s = ltb-true _ _ e in
        omega (arith, length-take (find_in newline s) s)
    go false e = omega arith

-- which it is, by whether a newline is found
pub first_ended : (s : List ℕ) (e : ℕ) → Some e ≡ found_in newline s → (first_line s ≡ ended (take e s)) × (e < length s)
unfolding first_line
first_ended s e q =
    let f = found_some newline e s q in
    let l : find_in newline s < length s = omega (arith, f) in
    (rw (lt-ltb (find_in newline s) (length s) l) (rw f.0), f.1)

pub first-cut : (s : List ℕ) → None ≡ found_in newline s → first_line s ≡ cut s
unfolding first_line
first-cut s q = rw (le-ltb (find_in newline s) (length s) (found_none newline s q))

-- ---- the line at a place of a script

unfoldable pub line_at : List ℕ → ℕ → Line
line_at script i = cond (leb (length script) script_limit) (first_line (drop i script)) (overlong (drop i script))

whole-line : (s : List ℕ) → 0 < length s → one_line s ≡ overlong s ∷ one_line (drop (length s) s)
whole-line [] h = absurd (omega arith)
whole-line (x ∷ xs) h = rw (drop-length (x ∷ xs))

-- the lines from a place on: that one, and those behind it
pub lines_next : (script : List ℕ) (i : ℕ) → i < length script → lines_from script i ≡ line_at script i ∷ lines_from script (i + size_of (line_at script i))
unfolding lines_from line_at size_of
lines_next script i h = go (leb (length script) script_limit)
  where
    some : 0 < length (drop i script)
    some = omega (arith, length-drop i script)

    go : (t : Bool) → cond t (lines_of (drop i script)) (one_line (drop i script))
        ≡ cond t (first_line (drop i script)) (overlong (drop i script))
        ∷ cond t (lines_of (drop (i + size_of (cond t (first_line (drop i script)) (overlong (drop i script)))) script)) (one_line (drop (i + size_of (cond t (first_line (drop i script)) (overlong (drop i script)))) script))
    go true = rw (← (drop-drop (size_of (first_line (drop i script))) i script)) (lines-first (drop i script) some)
    go false = rw (← (drop-drop (length (drop i script)) i script)) (whole-line (drop i script) some)

-- it has a byte at least, and ends within the script
pub size_at : (script : List ℕ) (i : ℕ) → i < length script → (0 < size_of (line_at script i)) × (i + size_of (line_at script i) ≤ length script)
unfolding line_at size_of
size_at script i h = go (leb (length script) script_limit)
  where
    some : 0 < length (drop i script)
    some = omega (arith, length-drop i script)

    go : (t : Bool) → (0 < size_of (cond t (first_line (drop i script)) (overlong (drop i script)))) × (i + size_of (cond t (first_line (drop i script)) (overlong (drop i script))) ≤ length script)
    go true = omega (arith, size_first (drop i script) some, length-drop i script)
    go false = omega (arith, length-drop i script)

-- past the end there is none
pub lines-over : (script : List ℕ) (i : ℕ) → length script ≤ i → lines_from script i ≡ []
unfolding lines_from lines_of
lines-over script i h = rw (drop_of_length-le script h) (go (leb (length script) script_limit))
  where
    go : (t : Bool) → ◌≡◌ {A = List Line} (cond t [] []) []
    go true = refl
    go false = refl

-- in a script that is not too long it is the first of what is left
pub line_first : (script : List ℕ) (i : ℕ) → length script ≤ script_limit → line_at script i ≡ first_line (drop i script)
unfolding line_at
line_first script i h = rw (le-leb (length script) script_limit h)

-- ---- what a line asks, where it asks something

unfoldable pub asks : Line → Option Request
asks (ended l) = request_of l
asks (cut l) = None
asks (overlong l) = None

-- the first line is called as what it asks
pub turn-first : (t s : List ℕ) → line_turn t (first_line s) ≡ request_turn t (asks (first_line s))
unfolding first_line line_turn request_turn asks
turn-first t s = go (ltb (find_in newline s) (length s))
  where
    go : (b : Bool) → line_turn t (cond b (ended (take (find_in newline s) s)) (cut s)) ≡ request_turn t (asks (cond b (ended (take (find_in newline s) s)) (cut s)))
    go true = refl
    go false = refl
