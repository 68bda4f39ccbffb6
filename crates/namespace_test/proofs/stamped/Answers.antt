-- `namespace_test::stamped` meets its contract: the words before i are passed. Assumes nothing.
use Rattle.std.proofs.Common.{sym, ◌∙◌, length, arith}
use Rattle.namespace_test.specs.Passing.{name_first, name-next, passed_none, passed-more, passed-all, low, double}
use Rattle.namespace_test.proofs.stamped.Goals as goal

pub loop-i-init : goal.loop-i-init
loop-i-init c =
    let a = c.args in
    (λ h. sym (name_first a.ns.now), passed_none a.ns.now (length a.ns.now) a.stamp a.seen.now (omega arith))

pub returns-then-name-name_before : goal.returns-then-name-name_before
returns-then-name-name_before c = low c.pass-i.ensures.1 (omega arith) (omega arith) (omega arith)

pub returns-then-stands_before : goal.returns-then-stands_before
returns-then-stands_before c =
    double c.pass-i.ensures.1 (omega arith) (omega arith) (rw c.pid_of.ensures at (sym c.stands_before.ensures.value ∙ c.if-stands_before.true))

pub loop-i-preserved-then-i-ns : goal.loop-i-preserved-then-i-ns
loop-i-preserved-then-i-ns c =
    let s = c.stands_before.ensures in
    let p = c.pass-i in (
      λ h. c.name_of-name.ensures ∙ sym (name-next p.result _),
      passed-more p.ensures.1 (omega arith) (omega arith) (omega (arith, c.type_inv.ns p.result)) (omega arith)
          (rw c.pid_of.ensures at (sym s.value ∙ c.if-stands_before.false)) _ (rw c.pid_of.ensures at s.seen_after),
    )

pub returns : goal.returns
returns c = passed-all c.loop-i.invariant.1 (omega arith)
