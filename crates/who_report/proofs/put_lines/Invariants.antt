-- `who_report::put_lines` meets its contract: the lines of the names that are left are still to be put.
-- Assumes nothing.
use Rattle.std.proofs.Common.{◌*◌, drop}
use Rattle.print.specs.Puts.{Leaves}
use Rattle.who_report.specs.Who.{name_lines}
use Rattle.who_report.proofs.put_lines.Given as goal

abbrev pub invariant-loop-s : goal.invariant-loop-s
invariant-loop-s l = Leaves l.initial.printer l.printer (name_lines l.words) (name_lines (drop (2 * l.s-index) l.words))
