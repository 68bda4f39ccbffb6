-- `print::Printer::put_number` meets its contract: the kit's digits are the fewest that hold the number, which are its decimal.
-- Assumes nothing.
use Rattle.std.proofs.Common.{◌∙◌}
use Rattle.print.specs.Puts.{puts_as}
use Rattle.print.specs.Printed.{decimal}
use Rattle.print.specs.Decimals.{fewest_decimal, fewest-few}
use Rattle.print.proofs.Printer.put_number.Goals as goal

pub returns : goal.returns
unfolding decimal
returns c =
    let d = c.decimal-k.ensures in
    puts_as c.put_bytes.ensures (d.digits ∙ fewest_decimal _ 19 _ d.len (fewest-few _ _ c.ranges.n.fits d.len))
