-- `indexed::open` meets its contract: refused for its run, or the opening, and zeros where that is done. Assumes nothing.
use mathlib.Core.Path.{◌≡◌, refl, sym, ap, ◌∙◌}
use mathlib.Core.List.{List}
use Prim.Native.Nat.{ℕ}
use lib.ListN.{replicate}
use Rattle.answers.specs.Numbers.{same-number}
use Rattle.answers.specs.declared.Answer.{Answer}
use Rattle.answers.specs.declared.Reason.TheVariants.{Done}
use Rattle.indexes.specs.IndexCalls.{Indexed}
use Rattle.indexed.specs.Opened.{opened-misfit, opened-zeroed, opened_left}
use Rattle.indexed.proofs.open.Goals as goal

-- what an opening gives, where that is known
module _ {d e : Indexed} (is : d ≡ e) where
  shows : {a : Answer} {t x : List ℕ} → a ≡ e.given.answer → t ≡ e.given.table → x ≡ e.index
      → (a ≡ d.given.answer) × ((t ≡ d.given.table) × (x ≡ d.index))
  shows p q r = (p ∙ sym (ap (λ (f : Indexed). f.given.answer) is), (q ∙ sym (ap (λ (f : Indexed). f.given.table) is), r ∙ sym (ap (λ (f : Indexed). f.index) is)))

pub returns-then-index-ne-INDEX_WORDS : goal.returns-then-index-ne-INDEX_WORDS
returns-then-index-ne-INDEX_WORDS c =
    let e = opened-misfit c.args.n c.args.hidden c.args.table.now c.args.index.now c.if-index-ne-INDEX_WORDS.true in
    let both = shows e (c.misfit.ensures c.args.hidden c.args.index.now c.if-index-ne-INDEX_WORDS.true ∙ ap (λ (f : Indexed). f.given.answer) e) refl refl in record { value = both.0; table_after = both.1.0; index_after = both.1.1 }

pub returns-then-eq : goal.returns-then-eq
returns-then-eq c =
    let a = c.args in
    let both = shows (opened-zeroed a.n a.hidden a.table.now a.index.now c.if-index-ne-INDEX_WORDS.false c.open-answer.ensures.value (sym (c.eq.ensures ∙ same-number c.open-answer.result.reason Done) ∙ c.if-eq.true))
    c.open-answer.ensures.value c.open-answer.ensures.t_after (c.clear.ensures ∙ ap (λ (m : ℕ). replicate m 0) c.if-index-ne-INDEX_WORDS.false) in record { value = both.0; table_after = both.1.0; index_after = both.1.1 }

pub returns-else-eq : goal.returns-else-eq
returns-else-eq c =
    let a = c.args in
    let both = shows (opened_left a.n a.hidden a.table.now a.index.now c.if-index-ne-INDEX_WORDS.false c.open-answer.ensures.value (sym (c.eq.ensures ∙ same-number c.open-answer.result.reason Done) ∙ c.if-eq.false))
    c.open-answer.ensures.value c.open-answer.ensures.t_after refl in record { value = both.0; table_after = both.1.0; index_after = both.1.1 }
