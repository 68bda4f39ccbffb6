-- `print::Printer::put_answer` meets its contract: the value, the words, the reason and the newline are put one behind the other.
-- Assumes nothing.
use Rattle.print.specs.Puts.{puts_next, puts_as}
use Rattle.print.specs.Decimals.{answer_parts}
use Rattle.print.proofs.Printer.put_answer.Goals as goal

pub returns : goal.returns
returns c =
    puts_as (puts_next c.put_value.ensures (puts_next c.put_words.ensures (puts_next (rw (← c.number.ensures) c.put_spaced.ensures) c.put_byte.ensures)))
    (answer_parts _ _)
