-- `index_test::is_index` meets its contract: as many rows as the table has names, and zeros behind them. Assumes nothing.
use borrow.Author.Rules.{part_to_end}
use Rattle.std.specs.Prelude.{◌≡◌, Bool, true, false, ◌&&◌, List, ℕ, ◌-◌, ◌*◌, ◌≤◌, length, take, drop}
use Rattle.std.proofs.Common.{sym, ap, ◌∙◌, arith}
use Rattle.semantics.specs.Sizes.{names_per_group, row_words, index_words}
use Rattle.semantics.specs.Test.{same, sound}
use Rattle.free_test.specs.WireTests.{all_zero}
use Rattle.sound_table.specs.Here.{here}
use Rattle.indexes.specs.Index.{Row, walk, index_of_table}
use Rattle.indexes.specs.Flat.{read_rows}
use Rattle.indexes.specs.WalkWords.{walk-fits}
use Rattle.index_test.specs.Right.{all_right}
use Rattle.index_test.specs.Verdict.{index-verdict}
use Rattle.index_test.proofs.is_index.Goals as goal

module _ (t : List ℕ) (ok : sound names_per_group t ≡ true) (index : List ℕ) (long : length index ≡ index_words names_per_group)
    (n : ℕ) (many : n ≡ length (walk (here t).groups)) where
  -- the rows have room in the index
  room : row_words * n ≤ length index
  room = omega (arith, walk-fits names_per_group t ok 0, many)

  -- what the test of the words behind the rows says, and what that of the rows says, is the verdict
  judged : (b : Bool) → b ≡ all_zero (take (length index - row_words * n) (drop (row_words * n) index))
      → b && all_right 0 (read_rows n index) (walk (here t).groups) ≡ same index (index_of_table names_per_group t)
  judged b e = rw (e ∙ ap all_zero (part_to_end index (row_words * n))) (index-verdict t index n ok long many)

pub overflow_mul-used : goal.overflow_mul-used
overflow_mul-used c = omega (arith, room c.args.t.words.now c.args.t.fit c.args.index.now c.requires.index_len c.names_total-count.result c.names_total-count.ensures)

pub offset_bounds-index-used : goal.offset_bounds-index-used
offset_bounds-index-used c = omega (arith, room c.args.t.words.now c.args.t.fit c.args.index.now c.requires.index_len c.names_total-count.result c.names_total-count.ensures)

pub slice_bounds-all_zero-count : goal.slice_bounds-all_zero-count
slice_bounds-all_zero-count c = room c.args.t.words.now c.args.t.fit c.args.index.now c.requires.index_len c.names_total-count.result c.names_total-count.ensures

pub slice_bounds-all_zero-start : goal.slice_bounds-all_zero-start
slice_bounds-all_zero-start c = room c.args.t.words.now c.args.t.fit c.args.index.now c.requires.index_len c.names_total-count.result c.names_total-count.ensures

pub returns-then-not-all_zero : goal.returns-then-not-all_zero
returns-then-not-all_zero c =
    judged c.args.t.words.now c.args.t.fit c.args.index.now c.requires.index_len c.names_total-count.result c.names_total-count.ensures false
    (sym c.if-not-all_zero.true ∙ c.all_zero.ensures)

pub rows-requires : goal.rows-requires
rows-requires c = room c.args.t.words.now c.args.t.fit c.args.index.now c.requires.index_len c.names_total-count.result c.names_total-count.ensures

pub returns : goal.returns
returns c =
    c.rows_right.ensures
    ∙ ap (λ (rs : List Row). all_right 0 rs (walk (here c.args.t.words.now).groups)) c.rows.ensures.value
    ∙ judged c.args.t.words.now c.args.t.fit c.args.index.now c.requires.index_len c.names_total-count.result c.names_total-count.ensures true
    (sym c.if-not-all_zero.false ∙ c.all_zero.ensures)
