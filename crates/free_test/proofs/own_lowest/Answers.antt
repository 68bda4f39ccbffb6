-- `free_test::own_lowest` meets its contract: what is gathered and what is left of the set together say what the whole set says. Assumes nothing.
use mathlib.Core.Path.{ap, ◌∙◌}
use Prim.Native.Nat.{ℕ}
use lib.Dec.{eqb}
use lib.Bits.{bit_xor}
use Rattle.nodes.specs.Sets.{empty, union, word_at}
use Rattle.free_test.specs.WireTests.{is_lowest}
use Rattle.free_test.specs.Gather.{empty-xor, met-turn, walked}
use Rattle.free_test.proofs.own_lowest.Goals as goal

pub loop-i-preserved : goal.loop-i-preserved
unfolding union
loop-i-preserved c =
    let at = c.loop-i in
    let free = c.args.free.now in
    let step = c.in-Some.ensures.steps in
    let group = word_at free c.in-Some.i in
    let right = empty-xor c.word_at.result group
    ∙ ap (λ (w : ℕ). eqb w group) (c.word_at.ensures ∙ ap (word_at free) c.lowest.ensures)
    ∙ ap (is_lowest free) step.is in
    rw step.others (met-turn at.off (bit_xor c.word_at.result group) at.i-iterator.0 (is_lowest free) step.some step.fits right ∙ at.invariant)

pub returns : goal.returns
returns c =
    let at = c.loop-i in
    walked (empty at.off) at.i-iterator.0 (is_lowest c.args.free.now) c.in-None.ensures.steps.0 ∙ at.invariant
