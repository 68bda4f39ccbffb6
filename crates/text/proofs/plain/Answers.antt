-- `text::plain` meets its contract: none, one, or more bytes.
-- Assumes nothing.
use mathlib.Core.Path.{◌≡◌, refl}
use mathlib.Core.Bool.{true, false, not}
use mathlib.Core.List.{List, [], ◌∷◌}
use Prim.Native.Nat.{ℕ, ◌≤◌}
use native.Mathlib.Omega.{arith}
use lib.Dec.{eqb}
use lib.ListN.{length, get_or}
use Rattle.text.specs.Numbers.{digit_0, plain}
use Rattle.text.proofs.plain.Goals as goal

none : (s : List ℕ) → length s ≡ 0 → false ≡ plain s
unfolding plain
none [] e = refl
none (x ∷ xs) e = absurd (omega arith)

one : (s : List ℕ) → length s ≡ 1 → true ≡ plain s
unfolding plain
one [] e = absurd (omega arith)
one (x ∷ []) e = refl
one (x ∷ y ∷ ys) e = absurd (omega arith)

more : (s : List ℕ) → 2 ≤ length s → not (eqb (get_or s 0 0) digit_0) ≡ plain s
unfolding plain
more [] l = absurd (omega arith)
more (x ∷ []) l = absurd (omega arith)
more (x ∷ y ∷ ys) l = refl

pub returns-in-empty : goal.returns-in-empty
returns-in-empty c = none _ (omega arith)

pub returns-in-len1 : goal.returns-in-len1
returns-in-len1 c = one _ (omega arith)

pub returns-in-len1-up : goal.returns-in-len1-up
returns-in-len1-up c = more _ c.in-len1-up.len_at_least
