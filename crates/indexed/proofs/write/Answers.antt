-- `indexed::write` meets its contract: refused for its table or its run, or the index is written. Assumes nothing.
use mathlib.Core.Path.{◌≡◌, refl, sym, ap, ◌∙◌}
use mathlib.Core.List.{List}
use Prim.Native.Nat.{ℕ}
use Rattle.answers.specs.declared.Answer.{Answer}
use Rattle.indexes.specs.IndexCalls.{Indexed}
use Rattle.inputs.proofs.Reasons.{passes}
use Rattle.indexed.specs.Reasons.{table-verdict, table_sound, written-refused, written-misfit, written-done}
use Rattle.indexed.proofs.write.Goals as goal

-- what writing gives, where that is known
module _ {d e : Indexed} (is : d ≡ e) where
  shows : {a : Answer} {x : List ℕ} → a ≡ e.given.answer → x ≡ e.index → (a ≡ d.given.answer) × (x ≡ d.index)
  shows p r = (p ∙ sym (ap (λ (f : Indexed). f.given.answer) is), r ∙ sym (ap (λ (f : Indexed). f.index) is))

pub returns-in-Err : goal.returns-in-Err
returns-in-Err c =
    let a = c.args in
    let both = shows (written-refused a.table.now a.index.now (c.check.ensures ∙ table-verdict c.args.table.now) c.in-Err.is) c.refused.ensures refl in record { value = both.0; index_after = both.1 }

pub returns-then-index-ne-INDEX_WORDS : goal.returns-then-index-ne-INDEX_WORDS
returns-then-index-ne-INDEX_WORDS c =
    let a = c.args in
    let both = shows (written-misfit a.table.now a.index.now (c.check.ensures ∙ table-verdict c.args.table.now) c.in_default.is c.if-index-ne-INDEX_WORDS.true) c.refused-then-index-ne-INDEX_WORDS.ensures refl in record { value = both.0; index_after = both.1 }

pub invariant_of-write : goal.invariant_of-write
invariant_of-write c =
    let q = table_sound c.args.table.now (passes (c.check.ensures ∙ table-verdict c.args.table.now) c.in_default.is) in
    record { sized = q.0; fit = q.1 }

pub returns : goal.returns
returns c =
    let a = c.args in
    let both = shows (written-done a.table.now a.index.now (c.check.ensures ∙ table-verdict c.args.table.now) c.in_default.is c.if-index-ne-INDEX_WORDS.false) c.done.ensures c.write.ensures in record { value = both.0; index_after = both.1 }
