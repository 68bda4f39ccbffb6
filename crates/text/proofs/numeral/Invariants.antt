-- `text::numeral` meets its contract: the digits of s spell what those that are left spell behind v.
-- Assumes nothing.
use Rattle.std.proofs.Common.{◌≡◌, drop}
use Rattle.std.specs.Prelude.{Some}
use Rattle.text.specs.Numbers.{numeral}
use Rattle.text.specs.DecimalDigits.{digits_from}
use Rattle.text.proofs.numeral.Given as goal

abbrev pub invariant-loop-b : goal.invariant-loop-b
invariant-loop-b l = numeral l.s ≡ digits_from (Some l.v) (drop l.b-index l.s)
