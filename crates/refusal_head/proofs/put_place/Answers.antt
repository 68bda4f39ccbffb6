-- `refusal_head::put_place` meets its contract: the name, the line, the column.
-- Assumes nothing.
use Rattle.std.proofs.Common.{◌≡◌}
use Rattle.position.specs.Position.{line_of, column_of}
use Rattle.print.specs.Puts.{puts_next, puts_as}
use Rattle.refusal_head.specs.Begins.{placed-words}
use Rattle.refusal_head.proofs.put_place.Goals as goal

pub returns : goal.returns
returns c =
    let l : c.line.result ≡ line_of c.args.file.text.now c.args.place = cc in
    let k : c.column.result ≡ column_of c.args.file.text.now c.args.place = cc in
    let all =
    puts_as
    (puts_next c.put_bytes.ensures
    (puts_next c.put_bytes-2.ensures
    (puts_next c.put_number.ensures (puts_next c.put_bytes-3.ensures (puts_next c.put_number-2.ensures c.put_bytes-4.ensures)))))
    (placed-words _ _ _ _ _ l k)
    in
    record { put = all.sheet; same_run = all.same_run }
