-- `index_reading::list_rows` meets its contract. The loop's invariant: the first k rows are listed. Assumes nothing.
use mathlib.Core.Path.{refl}
use native.Mathlib.Omega.{arith}
use lib.ListN.{length-set}
use Rattle.indexes.specs.Index.{named}
use Rattle.index_reading.specs.Listing.{list-row}
use Rattle.index_reading.proofs.list_rows.Goals as goal

pub loop-k-init : goal.loop-k-init
unfolding named
loop-k-init c = record { long = refl; listed = refl }

pub loop-k-preserved : goal.loop-k-preserved
loop-k-preserved c =
    let l = c.loop-k in
    let a = c.args in
    record { long = simp (length-set, length-set) l.invariant.long; listed = rw c.group_of.ensures (list-row a.rows.now a.out.now l.k l.out (omega arith) (omega arith) l.invariant.listed) }
