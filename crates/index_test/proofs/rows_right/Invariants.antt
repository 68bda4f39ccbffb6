-- `index_test::rows_right` meets its contract. The loop's invariant: all rows are right if those that are left are, above the last key. Assumes nothing.
use mathlib.Core.Path.{◌≡◌}
use Rattle.std.proofs.Common.{drop}
use Rattle.sound_table.specs.Here.{here}
use Rattle.indexes.specs.Index.{walk}
use Rattle.index_rows.specs.Arrays.{as_rows}
use Rattle.index_test.specs.Right.{all_right}
use Rattle.index_test.proofs.rows_right.Given as goal

abbrev pub invariant-loop-key : goal.invariant-loop-key
invariant-loop-key l =
    all_right 0 (as_rows l.rows) (walk (here l.t.words.now).groups) ≡ all_right l.last (as_rows (drop l.key-index l.rows)) (walk (here l.t.words.now).groups)
