-- `script::bad_line` meets its contract: the first bad line of all is the first of those that are left.
-- Assumes nothing.
use borrow.Author.Rules.{rules}
use mathlib.Core.Path.{◌≡◌, sym, ◌∙◌}
use mathlib.Core.Bool.{true, false}
use native.Mathlib.Omega.{arith}
use Rattle.std.specs.Option.{is_none}
use Rattle.script.specs.BadLines.{bad_size, bad-here, bad-further, bad-nowhere}
use Rattle.script.proofs.bad_line.Goals as goal

pub returns-then-is_none : goal.returns-then-is_none
returns-then-is_none c =
    let b : is_none c.first-head.result.request ≡ true = search rules in
    sym (c.loop-from.invariant.2 ∙ bad-here c.args.script.now c.loop-from.from _ _ c.loop-from-test.true c.first-head.ensures.0 c.first-head.ensures.1 _ b)

pub overflow_add-from : goal.overflow_add-from
overflow_add-from c = omega (arith, bad_size c.args.script.now c.loop-from.from _ _ c.loop-from-test.true c.first-head.ensures.0 c.first-head.ensures.1)

pub loop-from-smaller : goal.loop-from-smaller
loop-from-smaller c = omega (arith, bad_size c.args.script.now c.loop-from.from _ _ c.loop-from-test.true c.first-head.ensures.0 c.first-head.ensures.1)

pub loop-from-preserved : goal.loop-from-preserved
loop-from-preserved c =
    let z = bad_size c.args.script.now c.loop-from.from _ _ c.loop-from-test.true c.first-head.ensures.0 c.first-head.ensures.1 in
    let b : is_none c.first-head.result.request ≡ false = search rules in
    (omega arith, omega arith, c.loop-from.invariant.2 ∙ bad-further c.args.script.now c.loop-from.from _ _ c.loop-from-test.true c.first-head.ensures.0 c.first-head.ensures.1 _ b)

pub returns : goal.returns
returns c = sym (c.loop-from.invariant.2 ∙ bad-nowhere _ _ _ c.loop-from-test.false)
