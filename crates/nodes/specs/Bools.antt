-- Tests and comparisons, decided by cases, and laws of tests that the library lacks. Assumes nothing.
use Rattle.std.specs.Prelude.{◌≡◌, refl, ◌⊎◌, Bool, true, false, ◌&&◌, ℕ, ◌≤◌, ◌<◌, eqb, ltb}
use Rattle.std.proofs.Common.{sym, inl, inr, ltb-true, ltb-false, eqb-true}
use Rattle.std.proofs.lemmas.Bool.{eqb-false}

-- ---- by cases

pub by_test : (t : Bool) → (t ≡ true) ⊎ (t ≡ false)
by_test true = inl refl
by_test false = inr refl

pub by_lt : (a b : ℕ) → (a < b) ⊎ (b ≤ a)
by_lt a b = go (ltb a b) refl
  where
    go : (t : Bool) → ltb a b ≡ t → (a < b) ⊎ (b ≤ a)
    go true e = inl (ltb-true a b e)
    go false e = inr (ltb-false a b e)

pub by_eq : (a b : ℕ) → (a ≡ b) ⊎ (a ≡ b → ⊥)
by_eq a b = go (eqb a b) refl
  where
    go : (t : Bool) → eqb a b ≡ t → (a ≡ b) ⊎ (a ≡ b → ⊥)
    go true e = inl (eqb-true a b e)
    go false e = inr (eqb-false a b e)

-- ---- laws of tests

-- two tests that follow from one another are equal
pub test-ext : (x y : Bool) → (x ≡ true → y ≡ true) → (y ≡ true → x ≡ true) → x ≡ y
test-ext true true f g = refl
test-ext true false f g = sym (f refl)
test-ext false true f g = g refl
test-ext false false f g = refl

-- a test that follows from the first adds nothing to it
pub and-follows : (x y : Bool) → (x ≡ true → y ≡ true) → x && y ≡ x
and-follows true y f = f refl
and-follows false y f = refl
