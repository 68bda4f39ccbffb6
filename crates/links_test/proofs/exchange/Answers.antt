-- `links_test::exchange` meets its contract: the pairs of rows passed are exchanged.
-- Assumes nothing.
use mathlib.Core.Path.{◌≡◌}
use native.Mathlib.Omega.{arith}
use Rattle.links_test.specs.Exchange.{unit_pairs, row_lt, one_more, ended}
use Rattle.links_test.proofs.exchange.Goals as goal

-- both rows are in the unit
pub bounds-rows-r-in-loop-k : goal.bounds-rows-r-in-loop-k
bounds-rows-r-in-loop-k c =
    row_lt c.args.apart c.requires.0 c.requires.1 c.loop-k.k (omega arith)

pub bounds-rows-r-in-loop-k-3 : goal.bounds-rows-r-in-loop-k-3
bounds-rows-r-in-loop-k-3 c = (row_lt c.args.apart c.requires.0 c.requires.1 c.loop-k.k (omega arith))

pub loop-k-preserved : goal.loop-k-preserved
loop-k-preserved c =
    let at = c.loop-k in
    let a = c.args in
    rw (c.upper.ensures, c.lower.ensures)
    (one_more a.apart a.j a.mask a.rows.now at.rows at.k c.requires.0 c.requires.1 c.requires.2 (omega arith) at.invariant
    (rw c.lower.ensures at c.lower.type_inv) (rw c.upper.ensures at c.upper.type_inv))

pub returns : goal.returns
returns c =
    let at = c.loop-k in
    let all : at.k ≡ unit_pairs = omega arith in
    ended c.args.apart c.args.j c.args.rows.now at.rows c.requires.0 c.requires.1 (rw all at at.invariant)
