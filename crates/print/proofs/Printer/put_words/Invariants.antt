-- `print::Printer::put_words` meets its contract: what is left of the numbers is still to be put.
-- Assumes nothing.
use Rattle.std.proofs.Common.{drop}
use Rattle.print.specs.Printed.{spaced}
use Rattle.print.specs.Puts.{Leaves}
use Rattle.print.proofs.Printer.put_words.Given as goal

abbrev pub invariant-loop-word : goal.invariant-loop-word
invariant-loop-word l = Leaves l.initial.self l.self (spaced l.words) (spaced (drop l.word-index l.words))
