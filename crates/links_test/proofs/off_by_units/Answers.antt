-- `links_test::off_by_units` meets its contract: the rows taken of the units passed are turned, and what is gathered is zero where the nodes passed are mutual.
-- Assumes nothing.
use borrow.Author.Rules.{rules}
use mathlib.Core.Path.{◌≡◌, sym}
use Prim.Native.Nat.{◌+◌, ◌*◌}
use native.Mathlib.Omega.{arith}
use Rattle.nodes.specs.Sets.{word_at}
use Rattle.free_test.specs.Below.{below_none}
use Rattle.free_test.specs.Gather.{compared}
use Rattle.links_test.specs.Exchange.{unit_rows}
use Rattle.links_test.specs.Turning.{units, turned-wide, same_row, half-8, half-16, half-32}
use Rattle.links_test.proofs.off_by_units.Goals as goal

pub exchange-requires : goal.exchange-requires
exchange-requires c = (search rules, search rules, half-32)

pub exchange-requires-2 : goal.exchange-requires-2
exchange-requires-2 c = (search rules, search rules, half-16)

pub exchange-requires-3 : goal.exchange-requires-3
exchange-requires-3 c = (search rules, search rules, half-8)

pub loop-u-2-init : goal.loop-u-2-init
loop-u-2-init c = sym (below_none _)

pub loop-u-2-preserved : goal.loop-u-2-preserved
loop-u-2-preserved c =
    let at = c.loop-u-2 in
    let copied = c.loop-u in
    let all : copied.u ≡ units = omega arith in
    compared at.off (word_at c.exchange-3.new.rows at.u) (word_at c.args.links.now (unit_rows * at.u + c.args.k)) at.u _ at.invariant
    (same_row _ _ _ _ _ _ c.requires.0 c.requires.1 (rw all at copied.invariant)
    (turned-wide _ _ _ _ c.exchange.ensures c.exchange-2.ensures c.exchange-3.ensures) at.u (omega arith) (omega arith) (c.exchange-3.ensures.fits at.u (omega arith)))
