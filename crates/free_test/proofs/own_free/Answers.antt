-- `free_test::own_free` meets its contract: what is gathered is zero where each word passed is the group that is due. Assumes nothing.
use mathlib.Core.Path.{sym, ap}
use lib.Dec.{eqb}
use Rattle.nodes.specs.Sets.{word_at}
use Rattle.semantics.specs.Test.{freely}
use Rattle.free_test.specs.Below.{below_none}
use Rattle.free_test.specs.Gather.{compared}
use Rattle.free_test.proofs.own_free.Goals as goal

pub loop-i-init : goal.loop-i-init
loop-i-init c = sym (below_none _)

pub loop-i-preserved : goal.loop-i-preserved
loop-i-preserved c =
    let at = c.loop-i in
    let a = c.args in
    let free = a.free.now in
    compared at.off (word_at free at.i) c.freely.result at.i (λ i. eqb (word_at free i) (freely a.loose i (word_at a.links.now i)))
    at.invariant (ap (eqb (word_at free at.i)) c.freely.ensures)
