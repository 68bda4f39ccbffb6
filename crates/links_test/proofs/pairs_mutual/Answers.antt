-- `links_test::pairs_mutual` meets its contract: each pair once is enough.
-- Assumes nothing.
use mathlib.Core.Path.{◌≡◌, sym, ap, ◌∙◌}
use Prim.Native.Nat.{ℕ}
use native.Mathlib.Omega.{arith}
use Rattle.free_test.specs.WireTests.{all_below, both_ways}
use Rattle.free_test.specs.Below.{below_none, below_step}
use Rattle.links_test.specs.Mutual.{each-pair}
use Rattle.links_test.proofs.pairs_mutual.Goals as goal

pub loop-i-init : goal.loop-i-init
loop-i-init c = sym (below_none _)

pub loop-i-preserved : goal.loop-i-preserved
loop-i-preserved c = rw below_step (cc)

pub returns : goal.returns
returns c =
    let a = c.args in
    let links = c.args.links.now in
    let end : c.loop-i.i ≡ a.n = omega arith in
    c.loop-i.invariant ∙ ap (λ (n : ℕ). all_below n (λ k. all_below k (both_ways links k))) end ∙ each-pair links a.n
