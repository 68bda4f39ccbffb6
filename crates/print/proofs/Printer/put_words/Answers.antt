-- `print::Printer::put_words` meets its contract: what is left of the numbers is still to be put.
-- Assumes nothing.
use Rattle.print.specs.Decimals.{spaced_turn, spaced_end}
use Rattle.print.specs.Puts.{leaves_less, leaves_none}
use Rattle.print.proofs.Printer.put_words.Goals as goal

pub loop-word-preserved : goal.loop-word-preserved
loop-word-preserved c = leaves_less c.loop-word.invariant (spaced_turn _ _ c.loop-word-test.true) c.put_spaced.ensures

pub returns : goal.returns
returns c = leaves_none c.loop-word.invariant (spaced_end _ _ c.loop-word-test.false)
