-- `script::first` meets its contract: by whether a newline is found.
-- Assumes nothing.
use mathlib.Core.Path.{refl, sym, ap}
use Prim.Native.Nat.{ℕ, ◌+◌}
use native.Mathlib.Omega.{arith}
use lib.Seq.{length-take-le}
use Rattle.script.specs.Scripts.{size_of}
use Rattle.script.specs.FirstLines.{asks, first_ended, first-cut}
use Rattle.script.proofs.first.Goals as goal

pub returns-in_default : goal.returns-in_default
unfolding size_of asks
returns-in_default c = rw (first-cut _ c.in_default.ensures) (refl, refl)

pub slice_bounds-request_of-end : goal.slice_bounds-request_of-end
slice_bounds-request_of-end c = let f = first_ended _ _ c.in-Some.ensures in sym (length-take-le _ _ (omega arith))

pub overflow_add-result : goal.overflow_add-result
overflow_add-result c = let f = first_ended _ _ c.in-Some.ensures in omega arith

pub returns : goal.returns
unfolding size_of asks
returns c =
    let f = first_ended _ _ c.in-Some.ensures in
    rw f.0 (ap (λ (k : ℕ). k + 1) (sym (length-take-le _ _ (omega arith))), c.request_of.ensures)
