-- A list known in three parts, of which the middle one is lent and put back. Assumes nothing.
use Rattle.std.specs.Prelude.{◌≡◌, List, ◌++◌, ℕ, ◌+◌, length, take, drop}
use Rattle.std.proofs.Common.{ap, ◌∙◌, append_assoc, arith, length-append, take_at, drop_at}

-- t is p, then x, then z, where x begins at the place at and has so many words
pub record Cut (at size : ℕ) (t p x z : List ℕ) : Type 0 where
  pub is : t ≡ p ++ (x ++ z)
  pub starts : length p ≡ at
  pub long : length x ≡ size

module _ {at size : ℕ} {t p x z : List ℕ} (c : Cut at size t p x z) where
  -- the part, read
  pub part : take size (drop at t) ≡ x
  part = rw (c.is, drop_at p (x ++ z) at c.starts) (take_at x z size c.long)

  -- what a function that lends t[at..at + size] has, where the part has become r
  pub put : (r : List ℕ) → take at t ++ (r ++ drop size (drop at t)) ≡ p ++ (r ++ z)
  put r = rw (c.is, take_at p (x ++ z) at c.starts, drop_at p (x ++ z) at c.starts, drop_at x z size c.long)

-- a part of a part
pub inner : {at size : ℕ} {t P X Z : List ℕ} → Cut at size t P X Z → {i n : ℕ} {p x z : List ℕ} → Cut i n X p x z → Cut (at + i) n t (P ++ p) x (z ++ Z)
inner {P = P} {Z = Z} c {p = p} {x = x} {z = z} d = record {
  is = c.is ∙ ap (λ (y : List ℕ). P ++ (y ++ Z)) d.is ∙ simp append_assoc;
  starts = omega (arith, length-append P p, c.starts, d.starts);
  long = d.long;
}
