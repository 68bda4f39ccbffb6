-- `atoms::same` meets its contract: what is compared covers all bytes. Assumes nothing.
use mathlib.Core.Path.{◌≡◌}
use mathlib.Core.List.{List}
use Prim.Native.Nat.{ℕ, ◌*◌, ◌<◌}
use lib.ListN.{get_or}
use Rattle.atoms.proofs.same.Given as goal

-- the bytes in front of i are equal
abbrev pub Alike : List ℕ → List ℕ → ℕ → Type 0
Alike a b i = (k : ℕ) → k < i → get_or a k 0 ≡ get_or b k 0

abbrev pub invariant-loop-k : goal.invariant-loop-k
invariant-loop-k l = Alike l.a l.b (8 * l.k)
