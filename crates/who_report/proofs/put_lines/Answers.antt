-- `who_report::put_lines` meets its contract: the lines of the names that are left are still to be put.
-- Assumes nothing.
use Rattle.std.proofs.Common.{arith}
use Rattle.print.specs.Puts.{leaves_less, leaves_none}
use Rattle.who_report.specs.Telling.{names_turn, names_end}
use Rattle.who_report.proofs.put_lines.Goals as goal

pub loop-s-preserved : goal.loop-s-preserved
loop-s-preserved c =
    let f = c.as_chunks.ensures in
    leaves_less c.loop-s.invariant (names_turn c.args.words.now _ c.loop-s.s-index f.front (omega (arith, c.loop-s-test.true, f.front_len))) c.put_name.ensures

pub returns : goal.returns
returns c = leaves_none c.loop-s.invariant (names_end c.args.words.now c.loop-s.s-index (omega (arith, c.loop-s-test.false, c.as_chunks.ensures.front_len)))
