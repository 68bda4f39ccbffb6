-- `index_test::rows_right` meets its contract. The loop's invariant: all rows are right if those that are left are, above the last key. Assumes nothing.
use mathlib.Core.Path.{sym, ◌∙◌}
use native.Mathlib.Omega.{arith}
use Rattle.index_test.specs.Held.{unnamed}
use Rattle.index_test.specs.Verdict.{wrong-key, wrong_row, right-row, all-looked-at}
use Rattle.index_test.proofs.rows_right.Goals as goal

pub returns-then-key-last : goal.returns-then-key-last
returns-then-key-last c =
    let l = c.loop-key in
    sym (l.invariant ∙ wrong-key c.args.rows.now _ l.last l.key-index c.loop-key-test.true c.if-key-last.true)

pub returns-then-name-eq0 : goal.returns-then-name-eq0
returns-then-name-eq0 c =
    let l = c.loop-key in
    let name = c.in-Ok.ensures.1 in
    sym (l.invariant ∙ wrong_row c.args.rows.now _ l.last l.key-index c.loop-key-test.true (unnamed c.args.t.words.now c.args.t.fit _ (λ a b. omega (arith, name))))

pub returns-in_default : goal.returns-in_default
returns-in_default c =
    let l = c.loop-key in
    sym (l.invariant ∙ wrong_row c.args.rows.now _ l.last l.key-index c.loop-key-test.true (unnamed c.args.t.words.now c.args.t.fit _ (λ a b. c.in_default.ensures b)))

pub returns-then-not-has_row : goal.returns-then-not-has_row
returns-then-not-has_row c =
    let l = c.loop-key in
    let name = c.in-Ok.ensures.1 in
    sym (l.invariant ∙ wrong_row c.args.rows.now _ l.last l.key-index c.loop-key-test.true (rw name at (sym c.has_row.ensures ∙ c.if-not-has_row.true)))

pub loop-key-preserved : goal.loop-key-preserved
loop-key-preserved c =
    let l = c.loop-key in
    let name = c.in-Ok.ensures.1 in
    l.invariant
    ∙ right-row c.args.rows.now _ l.last l.key-index c.loop-key-test.true c.if-key-last.false (rw name at (sym c.has_row.ensures ∙ c.if-not-has_row.false))

pub returns : goal.returns
returns c =
    let l = c.loop-key in
    sym (l.invariant ∙ all-looked-at c.args.rows.now _ l.last l.key-index c.loop-key-test.false)
