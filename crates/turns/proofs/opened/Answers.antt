-- `turns::opened` meets its contract: opening has no list.
-- Assumes nothing.
use mathlib.Core.Path.{refl}
use Rattle.print.specs.Puts.{puts_as}
use Rattle.turns.specs.Turns.{request_turn}
use Rattle.step.specs.Lists.{opening-bare}
use Rattle.turns.proofs.opened.Goals as goal

pub returns-clause-puts : goal.returns-clause-puts
unfolding request_turn
returns-clause-puts c = puts_as c.put_answer.ensures (rw (c.open-answer.ensures.value, opening-bare) refl)

pub returns-clause-left : goal.returns-clause-left
unfolding request_turn
returns-clause-left c = c.open-answer.ensures.t_after
