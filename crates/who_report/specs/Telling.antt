-- Laws of `name_lines`: a turn and the end of the loop over a list. Assumes nothing.
use Rattle.std.specs.Prelude.{◌≡◌, refl, List, [], ◌∷◌, ◌++◌, ℕ, zero, suc, ◌+◌, ◌*◌, ◌/◌, ◌≤◌, ◌<◌, length, get_or, take, drop}
use Rattle.std.specs.Simd.{first_chunks}
use Rattle.std.proofs.Common.{add-one, arith, length-drop, drop-cons}
use Rattle.std.proofs.lemmas.List.{drop-drop}
use Rattle.who_report.specs.Who.{name_line, name_lines}

-- name i of a list: its two words
name-at : (i k : ℕ) (ws : List ℕ) → i < k → get_or (first_chunks 2 k ws) i [] ≡ take 2 (drop (2 * i) ws)
name-at i zero ws h = absurd (omega arith)
name-at zero (suc k) ws h = refl
name-at (suc i) (suc k) ws h =
    let e : 2 * suc i ≡ 2 + 2 * i = omega arith in
    rw (e, ← (drop-drop (2 * i) 2 ws)) (name-at i k (drop 2 ws) (omega arith))

-- the line of the name at word i, and those of the names behind it
pub lines_turn : (ws : List ℕ) (i : ℕ) → i + 1 < length ws → name_lines (drop i ws) ≡ name_line (get_or ws i 0) (get_or ws (i + 1) 0) ++ name_lines (drop (i + 2) ws)
unfolding name_lines
lines_turn ws i h =
    let a : i < length ws = omega arith in
    let b : suc i < length ws = omega arith in
    let k : i + 2 ≡ suc (suc i) = omega arith in
    rw (k, add-one, drop-cons ws i 0, drop-cons ws (suc i) 0)

-- the line of name i, and those of the names behind it
pub names_turn : (ws : List ℕ) (names : List (List ℕ)) (i : ℕ) → names ≡ first_chunks 2 (length ws / 2) ws → i < length ws / 2
    → name_lines (drop (2 * i) ws) ≡ name_line (get_or (get_or names i []) 0 0) (get_or (get_or names i []) 1 0) ++ name_lines (drop (2 * (i + 1)) ws)
names_turn ws names i f h =
    let a : 2 * i < length ws = omega arith in
    let b : suc (2 * i) < length ws = omega arith in
    let k : 2 * (i + 1) ≡ 2 * i + 2 = omega arith in
    let two : take 2 (drop (2 * i) ws) ≡ get_or ws (2 * i) 0 ∷ get_or ws (2 * i + 1) 0 ∷ [] = rw (add-one, drop-cons ws (2 * i) 0, drop-cons ws (suc (2 * i)) 0) in
    rw (f, name-at i (length ws / 2) ws h, two, k) (lines_turn ws (2 * i) (omega arith))

-- a word that is left over says nothing
none_left : (ws : List ℕ) → length ws ≤ 1 → name_lines ws ≡ []
unfolding name_lines
none_left [] h = refl
none_left (s ∷ []) h = refl
none_left (s ∷ n ∷ ws) h = absurd (omega arith)

pub lines_end : (ws : List ℕ) (i : ℕ) → length ws ≤ i + 1 → name_lines (drop i ws) ≡ []
lines_end ws i h = none_left (drop i ws) (omega (arith, length-drop i ws))

pub names_end : (ws : List ℕ) (i : ℕ) → length ws / 2 ≤ i → name_lines (drop (2 * i) ws) ≡ []
names_end ws i h = lines_end ws (2 * i) (omega arith)
