-- `tokens::long_run` meets its contract: the run at `at` is as long as what is passed and the run at i. Assumes nothing.
use mathlib.Core.Path.{◌≡◌, sym, ◌∙◌}
use Prim.Native.Nat.{◌+◌}
use native.Mathlib.Omega.{arith}
use Rattle.tokens.specs.Within.{passes-four}
use Rattle.tokens.proofs.long_run.Goals as goal

pub loop-i-preserved : goal.loop-i-preserved
loop-i-preserved c =
    let l = c.loop-i in
    let half = passes-four c.args.class _ _ _ l.invariant.1 (sym c.four.ensures ∙ c.if-not-four.false) in
    let e : l.i + 4 + 4 ≡ l.i + 8 = omega arith in
    (omega arith, rw e at (passes-four c.args.class _ _ _ half (sym c.four-in-loop-i.ensures ∙ c.if-not-four-2.false)))
