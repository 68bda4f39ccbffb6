-- `namespace_test::name_before` meets its contract. Assumes nothing.
use native.Mathlib.Omega.{arith}
use mathlib.Core.Path.{◌≡◌, sym, ap, ◌∙◌}
use Prim.Native.Nat.{ℕ}
use Rattle.namespace_test.specs.Passing.{name_before, name_first, name-later}
use Rattle.namespace_test.proofs.name_before.Goals as goal

pub returns-then-i-eq0 : goal.returns-then-i-eq0
returns-then-i-eq0 c =
    let a = c.args in
    let none : a.i ≡ 0 = omega arith in
    sym (ap (λ (n : ℕ). name_before n a.ns.now) none ∙ name_first a.ns.now)

pub returns : goal.returns
returns c =
    let a = c.args in
    c.name_of.ensures ∙ sym (name-later a.i a.ns.now (omega arith))
