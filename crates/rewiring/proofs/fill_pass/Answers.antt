-- `rewiring::fill_pass` meets its contract: the words from i on are still to be chosen, and `left` has the digits of the set from i on.
-- Assumes nothing.
use mathlib.Core.Path.{sym, ap, ◌∙◌}
use mathlib.Core.Bool.{cond}
use Prim.Native.Nat.{ℕ, ◌/◌, ◌%◌}
use native.Mathlib.Omega.{arith}
use lib.Dec.{eqb}
use lib.ListN.{get_or}
use lib.Pow.{shr-shr}
use Rattle.rewiring.specs.PlaceByPlace.{from-turn, from_end}
use Rattle.rewiring.proofs.fill_pass.Invariants.{put}
use Rattle.rewiring.proofs.fill_pass.Goals as goal

pub loop-old-preserved : goal.loop-old-preserved
loop-old-preserved c =
    let a = c.args in
    let at = c.loop-old in
    let i = at.old-index in
    let digit = ap (λ (x : ℕ). cond (eqb (x % 2) 1) a.word (get_or at.words i 0)) at.invariant.digits in
    record {
      digits = ap (λ (x : ℕ). x / 2) at.invariant.digits ∙ shr-shr a.set i 1;
      goal = from-turn (put a.set a.word) i at.words c.chosen.result (c.chosen.ensures ∙ digit) ∙ at.invariant.goal;
    }

pub returns : goal.returns
returns c =
    let at = c.loop-old in
    sym (from_end (put _ _) at.old-index at.words (omega arith)) ∙ at.invariant.goal
