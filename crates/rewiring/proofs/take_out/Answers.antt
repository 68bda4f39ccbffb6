-- `rewiring::take_out` meets its contract: the words from i on are still to lose the set.
-- Assumes nothing.
use mathlib.Core.Path.{sym, ◌∙◌}
use native.Mathlib.Omega.{arith}
use Rattle.rewiring.specs.PlaceByPlace.{from-turn, from_end}
use Rattle.rewiring.proofs.take_out.Invariants.{lost}
use Rattle.rewiring.proofs.take_out.Goals as goal

pub loop-word-preserved : goal.loop-word-preserved
loop-word-preserved c =
    let at = c.loop-word in
    from-turn (lost _) at.word-index at.words c.diff.result c.diff.ensures ∙ at.invariant

pub returns : goal.returns
returns c =
    let at = c.loop-word in
    sym (from_end (lost _) at.word-index at.words (omega arith)) ∙ at.invariant
