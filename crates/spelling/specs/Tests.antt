-- Laws of tests. Assumes nothing.
use Rattle.std.specs.Prelude.{◌≡◌, refl, Bool, true, false, not, ◌&&◌, ℕ}
use Rattle.std.proofs.Common.{arith}

-- both tests hold
pub both : (a b : Bool) → (a && b) ≡ true → (a ≡ true) × (b ≡ true)
both true b h = (refl, h)
both false b h = absurd (let z : ◌≡◌ {A = ℕ} 0 1 = cc in omega arith)

pub also : {a b : Bool} → a ≡ true → b ≡ true → (a && b) ≡ true
also x y = rw (x, y)

-- a test does not hold
pub unless : (a : Bool) → not a ≡ true → a ≡ false
unless true h = absurd (let z : ◌≡◌ {A = ℕ} 0 1 = cc in omega arith)
unless false h = refl
