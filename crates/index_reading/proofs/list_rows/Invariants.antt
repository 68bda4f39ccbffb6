-- `index_reading::list_rows` meets its contract. The loop's invariant: the first k rows are listed. Assumes nothing.
use mathlib.Core.Path.{◌≡◌}
use lib.ListN.{length}
use Rattle.index_reading.specs.Listing.{listed_rows}
use Rattle.index_reading.proofs.list_rows.Given as goal

abbrev pub invariant-loop-k : goal.invariant-loop-k
invariant-loop-k l = record { long : length l.out ≡ length l.initial.out; listed : l.out ≡ listed_rows l.rows l.initial.out l.k }
