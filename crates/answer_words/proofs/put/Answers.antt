-- `answer_words::put` meets its contract: four stores are the words of the answer before the rest of the run.
-- Assumes nothing.
use native.Mathlib.Omega.{arith}
use lib.ListN.{length-set}
use Rattle.answer_words.specs.Told.{answer-set}
use Rattle.answer_words.proofs.put.Goals as goal

pub bounds-run-1 : goal.bounds-run-1
bounds-run-1 c = simp length-set (omega (arith, c.requires))

pub bounds-run-2 : goal.bounds-run-2
bounds-run-2 c = simp length-set (omega (arith, c.requires))

pub bounds-run-3 : goal.bounds-run-3
bounds-run-3 c = simp length-set (omega (arith, c.requires))

pub returns : goal.returns
returns c =
    let a = c.args in record {
      value = c.number-why.ensures;
      run_after = answer-set a.given c.kind-kind.result c.first-one.result c.second-two.result c.number-why.result a.run.now
          c.requires
          c.kind-kind.ensures c.first-one.ensures c.second-two.ensures c.number-why.ensures;
    }
