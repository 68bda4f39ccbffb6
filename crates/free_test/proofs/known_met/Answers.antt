-- `free_test::known_met` meets its contract: what the members passed know and what is left of the set together say what the whole set says. Assumes nothing.
use mathlib.Core.Path.{◌∙◌}
use native.Mathlib.Omega.{arith}
use borrow.Author.Tests.{lt-ltb}
use Prim.Native.Nat.{◌^◌}
use Rattle.nodes.specs.Sets.{node_limit, subset, inter}
use Rattle.nodes.proofs.SetLaws.{subset-roster}
use Rattle.free_test.specs.Gather.{walked}
use Rattle.free_test.specs.Knowing.{knows_all, known-turn}
use Rattle.free_test.proofs.known_met.Goals as goal

pub loop-i-init : goal.loop-i-init
loop-i-init c = let set = c.args.set in rw (subset-roster set node_limit, lt-ltb set (2 ^ node_limit) (omega arith), c.into_iter-i-iterator.ensures.into_iter_gives)

pub loop-i-preserved : goal.loop-i-preserved
unfolding inter
loop-i-preserved c =
    let at = c.loop-i in
    let a = c.args in
    let step = c.in-Some.ensures.steps in
    rw (step.others, step.is) (known-turn a.known.now a.set at.common at.i-iterator.0 step.some step.fits ∙ at.invariant)

pub returns : goal.returns
returns c =
    let at = c.loop-i in
    let a = c.args in
    c.subset.ensures ∙ walked (subset a.set at.common) at.i-iterator.0 (knows_all a.known.now a.set) c.in-None.ensures.steps.0 ∙ at.invariant
