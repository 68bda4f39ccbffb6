-- A list with zeros after it. Assumes nothing.
use Rattle.std.specs.Prelude.{◌≡◌, refl, List, ◌++◌, ℕ, zero, suc, ◌+◌, ◌-◌, ◌≤◌, ◌<◌, length, get_or, take, replicate}
use Rattle.std.proofs.Common.{sym, ap, ◌∙◌, ⊎_elim, append_assoc, arith, length-append, take_at, get_or-append-add}
use Rattle.std.proofs.lemmas.List.{length-replicate}
use Rattle.std.proofs.Math.ListN.{get_or-append, get_or-eq_default}
use Rattle.nodes.specs.Bools.{by_lt}
use Rattle.semantics.specs.Table.{pad}

pub length-pad : (n : ℕ) (l : List ℕ) → length l ≤ n → length (pad n l) ≡ n
length-pad n l h = omega (arith, length-append l (replicate (n - length l) 0), length-replicate {A = ℕ} (n - length l) 0)

pub take-pad : (n : ℕ) (l z : List ℕ) → take (length l) (pad n l ++ z) ≡ l
take-pad n l z = rw (append_assoc l (replicate (n - length l) 0) z) (take_at l _ (length l) refl)

getD-zeros : (n i : ℕ) → ◌≡◌ {A = ℕ} (get_or (replicate n 0) i 0) 0
getD-zeros zero i = refl
getD-zeros (suc n) zero = refl
getD-zeros (suc n) (suc i) = getD-zeros n i

-- zeros after a list are what stands past its end
pub getD-pad : (n : ℕ) (l : List ℕ) (i : ℕ) → get_or (pad n l) i 0 ≡ get_or l i 0
getD-pad n l i = ⊎_elim (λ (h : i < length l). get_or-append l (replicate (n - length l) 0) 0 i h) past (by_lt i (length l))
  where
    past : length l ≤ i → get_or (pad n l) i 0 ≡ get_or l i 0
    past h =
        let e : i ≡ length l + (i - length l) = omega arith in
        ap (λ (j : ℕ). get_or (pad n l) j 0) e ∙ get_or-append-add l (replicate (n - length l) 0) (i - length l) 0 ∙ getD-zeros (n - length l) (i - length l)
        ∙ sym (get_or-eq_default l 0 h)
