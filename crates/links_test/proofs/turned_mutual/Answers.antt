-- `links_test::turned_mutual` meets its contract: the units passed are turned, and what is gathered is zero where the nodes passed are mutual.
-- Assumes nothing.
use mathlib.Core.Path.{◌≡◌, sym, ap, ◌∙◌}
use Prim.Native.Nat.{ℕ}
use native.Mathlib.Omega.{arith}
use Rattle.nodes.specs.Sets.{union}
use Rattle.free_test.specs.WireTests.{all_below}
use Rattle.free_test.specs.Below.{below_none}
use Rattle.free_test.specs.Gather.{gathered}
use Rattle.links_test.specs.Exchange.{unit_rows}
use Rattle.links_test.specs.Turning.{units_mutual, one-turned, all-units}
use Rattle.links_test.proofs.turned_mutual.Goals as goal

pub loop-u-preserved : goal.loop-u-preserved
loop-u-preserved c =
    let at = c.loop-u in
    record { long = omega (arith, c.turn_unit.ensures.long); turned = one-turned at.u _ _ _ at.invariant.turned c.turn_unit.ensures }

pub loop-k-init : goal.loop-k-init
loop-k-init c = sym (below_none _)

pub loop-k-preserved : goal.loop-k-preserved
unfolding union
loop-k-preserved c =
    let at = c.loop-k in
    let links = c.args.links.now in
    gathered at.off c.off_by_units-off.result at.k (units_mutual links) at.invariant c.off_by_units-off.ensures

pub returns : goal.returns
returns c =
    let links = c.args.links.now in
    let end : c.loop-k.k ≡ unit_rows = omega arith in
    c.loop-k.invariant ∙ ap (λ (n : ℕ). all_below n (units_mutual links)) end ∙ all-units links
