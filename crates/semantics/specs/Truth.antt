-- Laws of tests that the proofs share and the libraries lack. Assumes nothing.
use Rattle.std.specs.Prelude.{◌≡◌, refl, ◌↔◌, Bool, true, false, not, ◌||◌, cond, ℕ, eqb}
use Rattle.std.proofs.Common.{sym, ◌∙◌, ⊎_elim, true≢false, eq-eqb, ne_eqb}
use Rattle.std.specs.Bool.{beq}
use Rattle.std.proofs.lemmas.Bool.{false≢true}
use Rattle.nodes.specs.Bools.{by_eq}

-- where one of two tests holds, by cases
pub or_cases : {A : Type 0} (x y : Bool) → x || y ≡ true → (x ≡ true → A) → (y ≡ true → A) → A
or_cases true y h f g = f refl
or_cases false y h f g = g h

-- where no one of two tests holds
pub neither : (x y : Bool) → x || y ≡ false → (x ≡ false) × (y ≡ false)
neither true y h = absurd (true≢false h)
neither false y h = (refl, h)

-- a test that can't hold is false
pub unless : (x : Bool) → (x ≡ true → ⊥) → x ≡ false
unless true h = absurd (h refl)
unless false h = refl

pub eqb_comm : (i j : ℕ) → eqb i j ≡ eqb j i
eqb_comm i j =
    ⊎_elim (λ (e : i ≡ j). eq-eqb i j e ∙ sym (eq-eqb j i (sym e))) (λ (n : i ≡ j → ⊥). ne_eqb i j n ∙ sym (ne_eqb j i (λ e. n (sym e))))
    (by_eq i j)

-- ---- what tests say

pub not_iff : (x : Bool) → (not x ≡ true) ↔ (x ≡ false)
not_iff true = (λ h. absurd (false≢true h), λ h. absurd (true≢false h))
not_iff false = (λ h. refl, λ h. refl)

-- where the first holds, so does the second
pub cond-iff : (x y : Bool) → (cond x y true ≡ true) ↔ (x ≡ true → y ≡ true)
cond-iff true y = (λ h e. h, λ h. h refl)
cond-iff false y = (λ h e. absurd (false≢true e), λ h. refl)

pub beq-iff : (x y : Bool) → (beq x y ≡ true) ↔ (x ≡ y)
beq-iff true true = (λ h. refl, λ h. refl)
beq-iff true false = (λ h. absurd (false≢true h), λ h. absurd (true≢false h))
beq-iff false true = (λ h. absurd (false≢true h), λ h. absurd (false≢true h))
beq-iff false false = (λ h. refl, λ h. refl)
