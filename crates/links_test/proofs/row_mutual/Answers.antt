-- `links_test::row_mutual` meets its contract: the lowest digit of what is gathered is 0 where the connections with each node passed are mutual.
-- Assumes nothing.
use mathlib.Core.Path.{refl, sym}
use Rattle.nodes.specs.Sets.{word_at}
use Rattle.free_test.specs.WireTests.{both_ways}
use Rattle.free_test.specs.Below.{below_none}
use Rattle.links_test.specs.Mutual.{paired}
use Rattle.links_test.proofs.row_mutual.Goals as goal

pub loop-j-init : goal.loop-j-init
loop-j-init c = sym (below_none _)

pub loop-j-preserved : goal.loop-j-preserved
loop-j-preserved c =
    let at = c.loop-j in
    let i = c.args.i in
    let links = c.args.links.now in
    paired at.off (word_at links i) (word_at links at.j) i at.j (both_ways links i) at.invariant refl
