-- `index_reading::names_of` meets its contract: the rows between the two ranks are those of the pid. Assumes nothing.
use Rattle.std.specs.Prelude.{◌≡◌, refl, true, List, ℕ, length}
use Rattle.std.proofs.Common.{arith}
use Rattle.semantics.specs.Sizes.{names_per_group}
use Rattle.semantics.specs.Test.{sound}
use Rattle.indexes.specs.Index.{index_of_table}
use Rattle.index_rows.specs.Paired.{Paired, rows_fit}
use Rattle.index_reading.specs.Reading.{ranked, read-unknown, read_short, read-listed}
use Rattle.index_reading.proofs.names_of.Goals as goal

-- the index is that of the table
pair : {t index : List ℕ} → sound names_per_group t ≡ true → index ≡ index_of_table names_per_group t → Paired t index
pair ok is = record { ok = ok; is = is }

pub returns-then-size-host_of : goal.returns-then-size-host_of
returns-then-size-host_of c =
    rw (read-unknown (pair c.args.t.fit c.requires.index_value) (length c.args.out.now) c.args.p (omega (arith, c.size.ensures.value, c.if-size-host_of.true)))
    (record { value = c.refused.ensures; out_after = refl })

pub rows-rows-requires : goal.rows-rows-requires
rows-rows-requires c = rows_fit (pair c.args.t.fit c.requires.index_value) c.names_total.result c.names_total.ensures

pub slice_bounds-own-start : goal.slice_bounds-own-start
slice_bounds-own-start c =
    omega (arith, (ranked (pair c.args.t.fit c.requires.index_value) _ c.names_total.ensures c.rows-rows.result.now c.rows-rows.ensures.value c.args.p c.rank-from.result c.rank-to.result _ _ c.rank-from.ensures.value c.rank-to.ensures.value (omega arith) (omega arith)))

pub slice_bounds-own-count : goal.slice_bounds-own-count
slice_bounds-own-count c =
    omega (arith, (ranked (pair c.args.t.fit c.requires.index_value) _ c.names_total.ensures c.rows-rows.result.now c.rows-rows.ensures.value c.args.p c.rank-from.result c.rank-to.result _ _ c.rank-from.ensures.value c.rank-to.ensures.value (omega arith) (omega arith)))

pub returns-then-out-words : goal.returns-then-out-words
returns-then-out-words c =
    let f = (ranked (pair c.args.t.fit c.requires.index_value) _ c.names_total.ensures c.rows-rows.result.now c.rows-rows.ensures.value c.args.p c.rank-from.result c.rank-to.result _ _ c.rank-from.ensures.value c.rank-to.ensures.value (omega arith) (omega arith)) in
    rw (read_short (pair c.args.t.fit c.requires.index_value) (length c.args.out.now) c.args.p (omega (arith, c.size.ensures.value, c.if-size-host_of.false)) (omega (arith, f.words, c.if-out-words.true)))
    (record { value = c.refused-then-out-words.ensures; out_after = refl })

pub returns : goal.returns
returns c =
    let f = (ranked (pair c.args.t.fit c.requires.index_value) _ c.names_total.ensures c.rows-rows.result.now c.rows-rows.ensures.value c.args.p c.rank-from.result c.rank-to.result _ _ c.rank-from.ensures.value c.rank-to.ensures.value (omega arith) (omega arith)) in
    rw (
      read-listed (pair c.args.t.fit c.requires.index_value) (length c.args.out.now) c.args.p (omega (arith, c.size.ensures.value, c.if-size-host_of.false)) (omega (arith, f.words, c.if-out-words.false)),
      f.words,
    )
    (record { value = c.done.ensures; out_after = rw f.names at c.list_rows.ensures })
