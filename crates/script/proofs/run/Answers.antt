-- `script::run` meets its contract: the run of all lines is the run of those that are left, on what the others left and printed.
-- Assumes nothing.
use borrow.Author.Rules.{rules}
use Rattle.print.specs.Putting.{stays_within}
use Rattle.script.specs.Whole.{run-full, run-called, first_size, run-over}
use mathlib.Core.Path.{sym, ◌∙◌}
use native.Mathlib.Omega.{arith}
use Rattle.script.proofs.run.Goals as goal

pub returns-then-printer-lt-LINE_ROOM : goal.returns-then-printer-lt-LINE_ROOM
returns-then-printer-lt-LINE_ROOM c =
    let q = sym (c.loop-at.invariant.4 ∙ run-full _ _ _ _ _ c.loop-at-test.true (omega arith)) in
    search rules

pub overflow_add-at : goal.overflow_add-at
overflow_add-at c = omega (arith, first_size c.args.script.now c.loop-at.at _ c.if-script-gt-SCRIPT_LIMIT.false c.loop-at-test.true c.first-head.ensures.0)

pub loop-at-smaller : goal.loop-at-smaller
loop-at-smaller c = omega (arith, first_size c.args.script.now c.loop-at.at _ c.if-script-gt-SCRIPT_LIMIT.false c.loop-at-test.true c.first-head.ensures.0)

pub loop-at-preserved : goal.loop-at-preserved
loop-at-preserved c =
    let f = c.first-head in
    let r = c.request_turn.ensures in (
      search rules,
      stays_within _ _ _ _ _ c.loop-at.invariant.1 r.puts.sheet,
      r.puts.same_run ∙ c.loop-at.invariant.2,
      search rules,
      c.loop-at.invariant.4 ∙ run-called c.args.script.now c.loop-at.at _ _ _ _ _ _ _ _ c.if-script-gt-SCRIPT_LIMIT.false c.loop-at-test.true (omega arith) f.ensures.0 f.ensures.1 r.puts.sheet r.left,
    )

pub returns : goal.returns
returns c =
    let q = sym (c.loop-at.invariant.4 ∙ run-over _ _ _ _ c.loop-at-test.false) in
    search rules
