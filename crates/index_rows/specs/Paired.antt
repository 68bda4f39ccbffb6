-- The index of a sound table as rows in a run: those of all names, ascending, and no other word is used. Assumes nothing.
use Rattle.std.specs.Prelude.{◌≡◌, true, List, ℕ, ◌*◌, ◌≤◌}
use Rattle.std.proofs.Math.Path.{sym, ap}
use Rattle.std.proofs.Common.{◌∙◌, arith}
use Rattle.std.proofs.Math.ListN.{length}
use Rattle.semantics.specs.Sizes.{names_per_group, row_words, index_words}
use Rattle.semantics.specs.Table.{state_of}
use Rattle.semantics.specs.Test.{sound}
use Rattle.semantics.specs.Padding.{length-pad}
use Rattle.indexes.specs.Index.{Row, walk, sorted, flat, index_of, index_of_table}
use Rattle.indexes.specs.Sorting.{length-sorted, sorted-ascending}
use Rattle.indexes.specs.Flat.{length-flat}
use Rattle.indexes.specs.WalkWords.{walk-fits, walk-distinct-from}
use Rattle.index_rows.specs.Filled.{Fills}
use Rattle.index_rows.specs.Moving.{fills}

-- x is the index of the sound table t
pub record Paired (t x : List ℕ) : Type 0 where
  pub ok : sound names_per_group t ≡ true
  pub is : x ≡ index_of_table names_per_group t

-- the rows of all names, as they stand in the table
abbrev pub all_rows : List ℕ → List Row
all_rows t = walk (state_of names_per_group t).groups

module _ {t x : List ℕ} (h : Paired t x) where
  fit : row_words * length (all_rows t) ≤ index_words names_per_group
  fit = omega (arith, walk-fits names_per_group t h.ok 0)

  -- it has an index's length
  pub index-long : length x ≡ index_words names_per_group
  unfolding index_of
  index-long =
      ap length h.is ∙ length-pad (index_words names_per_group) (flat (sorted (all_rows t))) (omega (arith, length-flat (sorted (all_rows t)), length-sorted (all_rows t), fit))

  -- it holds the rows of the table's names, ascending
  pub index-fills : (count : ℕ) → count ≡ length (all_rows t) → Fills count (sorted (all_rows t)) x
  unfolding index_of
  index-fills count e =
      fills (index_words names_per_group) count (sorted (all_rows t)) x (length-sorted (all_rows t) ∙ sym e) (omega (arith, fit))
      (sorted-ascending (all_rows t) (walk-distinct-from names_per_group t h.ok 0)) h.is

  pub rows_fit : (count : ℕ) → count ≡ length (all_rows t) → row_words * count ≤ length x
  rows_fit count e = omega (arith, index-long, fit)
