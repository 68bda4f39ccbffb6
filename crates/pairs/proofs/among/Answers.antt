-- `pairs::among` meets its contract: after i turns it knows whether one of the first i numbers is this one.
-- Assumes nothing.
use Rattle.std.proofs.Common.{sym, eqb, arith}
use Rattle.std.proofs.lemmas.List.Folds.{list_any_more}
use Rattle.pairs.proofs.among.Goals as goal

pub loop-other-preserved : goal.loop-other-preserved
loop-other-preserved c =
    let v = c.loop-other in
    let a = c.args in
    rw v.invariant (sym (list_any_more (λ n. eqb n a.number) a.numbers.now v.other-index 0 (omega arith)))
