-- `links_test::turn_unit` meets its contract: the rows passed are copied, turned by three rounds, and the turned rows passed are copied back.
-- Assumes nothing.
use borrow.Author.Rules.{rules}
use mathlib.Core.Path.{◌≡◌}
use native.Mathlib.Omega.{arith}
use Rattle.links_test.specs.Exchange.{unit_rows}
use Rattle.links_test.specs.Turning.{turned-alone, unit-turned, half-1, half-2, half-4}
use Rattle.links_test.proofs.turn_unit.Goals as goal

pub exchange-requires : goal.exchange-requires
exchange-requires c = (search rules, search rules, half-4)

pub exchange-requires-2 : goal.exchange-requires-2
exchange-requires-2 c = (search rules, search rules, half-2)

pub exchange-requires-3 : goal.exchange-requires-3
exchange-requires-3 c = (search rules, search rules, half-1)

pub returns : goal.returns
returns c =
    let copied = c.loop-k in
    let all : copied.k ≡ unit_rows = omega arith in
    let all2 : c.loop-k-2.k ≡ unit_rows = omega arith in
    unit-turned _ _ _ _ _ _ _ (rw all at copied.invariant) (turned-alone _ _ _ _ c.exchange.ensures c.exchange-2.ensures c.exchange-3.ensures)
    (rw all2 at c.loop-k-2.invariant)
