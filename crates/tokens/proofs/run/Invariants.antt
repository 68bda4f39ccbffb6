-- `tokens::run` meets its contract: the run at `at` is as long as what is passed and the run at i. Assumes nothing.
use Rattle.tokens.specs.Within.{Passed}
use Rattle.tokens.proofs.run.Given as goal

abbrev pub invariant-loop-i : goal.invariant-loop-i
invariant-loop-i l = Passed l.class l.text l.at l.i
