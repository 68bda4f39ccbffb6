-- `sgroup_who::run_script` meets its contract: what all lines leave is what those that are left leave.
use Rattle.std.proofs.Common.{arith, rules, sym, ◌∙◌}
use Rattle.sgroup_who.specs.Reported.{ran_on, ran_out}
use Rattle.sgroup_who.proofs.run_script.Goals as goal

pub loop-at-smaller : goal.loop-at-smaller
loop-at-smaller c = let m = ran_on _ _ _ _ _ _ _ _ c.run-ran.ensures c.loop-at-test.true (omega arith) in omega arith

pub loop-at-preserved : goal.loop-at-preserved
loop-at-preserved c =
    (search rules, search rules, (ran_on _ _ _ _ _ _ _ _ c.run-ran.ensures c.loop-at-test.true (omega arith)).0 ∙ c.loop-at.invariant.2)

pub returns : goal.returns
returns c = sym (ran_out _ _ _ c.loop-at-test.false) ∙ c.loop-at.invariant.2
