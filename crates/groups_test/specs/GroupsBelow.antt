-- Tests of every number below a bound, parts that are lent, and where the names of an s_group stand. Assumes nothing.
use Rattle.std.specs.Prelude.{◌≡◌, Bool, false, List, ℕ, ◌+◌, ◌-◌, ◌*◌, ◌≤◌, ◌<◌, take, drop}
use Rattle.std.proofs.Common.{sym, ap, ◌∙◌, true≢false, mul-suc, mul_comm, mul-le-mul_left, arith}
use Rattle.std.proofs.Math.Nat.{add-sub_cancel_left}
use Rattle.semantics.specs.Sizes.{group_limit}
use Rattle.semantics.specs.Truth.{unless}
use Rattle.free_test.specs.WireTests.{all_below}
use Rattle.free_test.specs.Below.{below_at}

-- where one fails, the test of all fails
pub below_fails : (n : ℕ) (p : ℕ → Bool) (i : ℕ) → i < n → p i ≡ false → all_below n p ≡ false
below_fails n p i l e = unless (all_below n p) (λ h. true≢false (sym (below_at n p h i l) ∙ e))

-- size words from at, as a part that is lent
pub lent-part : (at size : ℕ) (t : List ℕ) → take (at + size - at) (drop at t) ≡ take size (drop at t)
lent-part at size t = ap (λ (k : ℕ). take k (drop at t)) (add-sub_cancel_left at size)

-- the words of the first G s_groups' names are among those of all names
pub bodies-before : (cap G : ℕ) → G ≤ group_limit → cap * G ≤ group_limit * cap
bodies-before cap G few = omega (arith, mul-le-mul_left cap few, mul_comm group_limit cap)

-- and so are those of each one's
pub body-within : (cap g G : ℕ) → g < G → G ≤ group_limit → cap * g + cap ≤ group_limit * cap
body-within cap g G l few = omega (arith, bodies-before cap G few, mul-suc cap g, mul-le-mul_left cap l)
