-- `table::bodies_zero` meets its contract: the words of the s_groups that were passed are tested.
-- Assumes nothing.
use mathlib.Core.Path.{◌≡◌, sym, ap, ap₂, ◌∙◌}
use mathlib.Core.Bool.{Bool, ◌&&◌}
use mathlib.Core.List.{List}
use Prim.Native.Nat.{ℕ, ◌+◌, ◌*◌, ◌≤◌, ◌<◌}
use native.Mathlib.Nat.{mul-suc, mul_comm, mul-le-mul_left}
use native.Mathlib.Omega.{arith}
use lib.ListN.{length}
use Rattle.semantics.specs.Sizes.{group_limit, bodies_at, table_words}
use Rattle.free_test.specs.WireTests.{all_zero}
use Rattle.groups_test.specs.GroupTests.{part}
use Rattle.groups_test.specs.GroupsBelow.{bodies-before, body-within, lent-part}
use Rattle.table.specs.TestMeaning.{zero-none, zero-split}
use Rattle.table.proofs.bodies_zero.Goals as goal

-- one namespace more
more : (cap g i : ℕ) (t : List ℕ) → length t ≡ table_words cap → g ≤ i → i < group_limit
    → (x : Bool) → x ≡ all_zero (part t (bodies_at + cap * g) (bodies_at + cap * i))
    → (y : Bool) → y ≡ all_zero (part t (bodies_at + cap * i) (bodies_at + cap * i + cap))
    → x && y ≡ all_zero (part t (bodies_at + cap * g) (bodies_at + cap * (i + 1)))
more cap g i t long few l x ex y ey =
    let next : bodies_at + cap * i + cap ≡ bodies_at + cap * (i + 1) = omega (arith, mul-suc cap i) in
    ap₂ (λ (a b : Bool). a && b) ex ey
    ∙ sym (zero-split t (bodies_at + cap * g) (bodies_at + cap * i) (bodies_at + cap * i + cap)
    (omega (arith, mul-le-mul_left cap few)) (omega arith) (omega (arith, long, body-within cap i group_limit l (omega arith))))
    ∙ ap (λ (n : ℕ). all_zero (part t (bodies_at + cap * g) n)) next

pub loop-i-init : goal.loop-i-init
loop-i-init c =
    let a = c.args in
    sym (zero-none a.t.words.now (bodies_at + a.cap * a.t.count) (omega (arith, bodies-before a.cap a.t.count a.t.few)))

pub loop-i-preserved : goal.loop-i-preserved
loop-i-preserved c =
    let v = c.loop-i in
    let a = c.args in
    more a.cap a.t.count v.i a.t.words.now c.requires (omega arith) (omega arith) v.right v.invariant c.all_zero-right.result
    (c.all_zero-right.ensures ∙ ap all_zero (c.body.ensures ∙ sym (lent-part (bodies_at + a.cap * v.i) a.cap a.t.words.now)))

pub returns : goal.returns
returns c =
    let v = c.loop-i in
    let a = c.args in
    v.invariant
    ∙ ap (λ (n : ℕ). all_zero (part a.t.words.now (bodies_at + a.cap * a.t.count) (bodies_at + n))) (ap (λ (n : ℕ). a.cap * n) (omega arith) ∙ mul_comm a.cap group_limit)
