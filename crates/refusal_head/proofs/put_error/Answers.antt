-- `refusal_head::put_error` meets its contract: the word, the number of the reason, the place.
-- Assumes nothing.
use Rattle.print.specs.Puts.{puts_next}
use Rattle.refusal_head.specs.Refusal.{error_line}
use Rattle.refusal_head.proofs.put_error.Goals as goal

pub returns : goal.returns
unfolding error_line
returns c =
    rw (← c.number.ensures)
    (puts_next c.put_bytes.ensures (puts_next c.put_number.ensures (puts_next c.put_bytes-2.ensures (puts_next c.put_number-2.ensures c.put_bytes-3.ensures))))
