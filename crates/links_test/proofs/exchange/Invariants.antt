-- `links_test::exchange` meets its contract: the pairs of rows passed are exchanged.
-- Assumes nothing.
use Rattle.links_test.specs.Exchange.{Partly}
use Rattle.links_test.proofs.exchange.Given as goal

abbrev pub invariant-loop-k : goal.invariant-loop-k
invariant-loop-k l = Partly l.apart l.j l.k l.initial.rows l.rows
