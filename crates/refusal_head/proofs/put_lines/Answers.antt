-- `refusal_head::put_lines` meets its contract: by whether it is a slip.
-- Assumes nothing.
use Rattle.std.proofs.Common.{append-nil}
use Rattle.print.specs.Puts.{Puts, puts_next}
use Rattle.refusal_head.specs.Refusal.{head_lines}
use Rattle.refusal_head.proofs.put_lines.Goals as goal

pub returns-then-slip : goal.returns-then-slip
unfolding head_lines
returns-then-slip c =
    let placed : Puts c.put_error.new.printer c.put_place.new.printer _ = record { sheet = c.put_place.ensures.put; same_run = c.put_place.ensures.same_run } in
    rw c.if-slip.true (puts_next c.put_error.ensures (puts_next placed c.put_bytes.ensures))

pub returns-else-slip : goal.returns-else-slip
unfolding head_lines
returns-else-slip c = rw (c.if-slip.false, append-nil) c.put_error.ensures
