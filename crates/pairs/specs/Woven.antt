-- S_groups to be made read as one list of words, two for each: its number and its set. Assumes nothing.
use Rattle.std.specs.Prelude.{◌≡◌, refl, List, [], ◌∷◌, ◌++◌, ℕ, zero, suc, ◌+◌, ◌*◌, ◌<◌, length, take, set, get_or}
use Rattle.std.proofs.Common.{ap, arith}
use Rattle.pairs.specs.declared.Made.{Made}

-- the number of the first, then its set, then the number of the second, and so on
unfoldable pub woven : List Made → List ℕ
woven [] = []
woven (m ∷ ms) = m.number ∷ m.set ∷ woven ms

-- two words for each
pub woven-length : (ms : List Made) → length (woven ms) ≡ 2 * length ms
unfolding woven
woven-length [] = refl
woven-length (m ∷ ms) = omega (arith, woven-length ms)

-- the number of the i-th stands at 2 i
pub woven-first : (ms : List Made) (d : Made) (i : ℕ) → i < length ms → get_or (woven ms) (2 * i) 0 ≡ (get_or ms i d).number
unfolding woven
woven-first [] d i l = absurd (omega arith)
woven-first (m ∷ ms) d zero l = refl
woven-first (m ∷ ms) d (suc i) l =
    let at : 2 * suc i ≡ suc (suc (2 * i)) = omega arith in
    rw at (woven-first ms d i (omega arith))

-- both words of a place are written
pub woven-set : (ms : List Made) (i : ℕ) (m : Made) → i < length ms
    → woven (set ms i m) ≡ set (set (woven ms) (2 * i) m.number) (2 * i + 1) m.set
unfolding woven
woven-set [] i m l = absurd (omega arith)
woven-set (x ∷ ms) zero m l = refl
woven-set (x ∷ ms) (suc i) m l =
    let p : 2 * suc i ≡ suc (suc (2 * i)) = omega arith in
    let q : 2 * suc i + 1 ≡ suc (suc (2 * i + 1)) = omega arith in
    rw (q, p) (ap (λ ws. x.number ∷ x.set ∷ ws) (woven-set ms i m (omega arith)))

-- the words of the first k
pub woven-take : (ms : List Made) (k : ℕ) → take (2 * k) (woven ms) ≡ woven (take k ms)
unfolding woven
woven-take [] zero = refl
woven-take [] (suc k) = let p : 2 * suc k ≡ suc (suc (2 * k)) = omega arith in rw p
woven-take (m ∷ ms) zero = refl
woven-take (m ∷ ms) (suc k) =
    let p : 2 * suc k ≡ suc (suc (2 * k)) = omega arith in rw p (ap (λ ws. m.number ∷ m.set ∷ ws) (woven-take ms k))

-- one more
pub woven-append : (ms : List Made) (m : Made) → woven (ms ++ (m ∷ [])) ≡ woven ms ++ (m.number ∷ m.set ∷ [])
unfolding woven
woven-append [] m = refl
woven-append (x ∷ ms) m = ap (λ ws. x.number ∷ x.set ∷ ws) (woven-append ms m)
