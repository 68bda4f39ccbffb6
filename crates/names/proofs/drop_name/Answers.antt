-- `names::drop_name` meets its contract: the words without the name, and the count in the contents word where it was held.
-- Assumes nothing.
use Rattle.std.proofs.Common.{sym, ap, ◌∙◌, arith}
use Rattle.std.specs.Prelude.{is_ok}
use Rattle.names.specs.NamesHere.{dropped-here, not-dropped-here, some-name}
use Rattle.names.proofs.Changes.{told-held}
use Rattle.names.proofs.drop_name.Goals as goal

pub overflow_sub-t : goal.overflow_sub-t
overflow_sub-t c =
    omega (arith, c.name_count-count.ensures, some-name c.name_count-count.result c.args.n _ (ap is_ok (sym c.drop_name.ensures.value) ∙ sym c.is_ok-dropped.ensures.value ∙ c.if-dropped.true))

pub returns-then-dropped-clause-value : goal.returns-then-dropped-clause-value
returns-then-dropped-clause-value c =
    λ st l w. c.is_ok-dropped.ensures.value
    ∙ told-held l c.args.at w _ _ c.own_words.ensures.start c.own_words.ensures.end c.name_count-count.result c.args.n c.name_count-count.ensures c.drop_name.result c.drop_name.ensures.value

pub returns-then-dropped-clause-laid : goal.returns-then-dropped-clause-laid
returns-then-dropped-clause-laid c =
    λ st l w. dropped-here l c.args.at w _ _ c.own_words.ensures.start c.own_words.ensures.end c.drop_name.new.ns c.drop_name.auto.ns c.args.n
    (rw c.name_count-count.ensures at c.drop_name.ensures.ns_after)
    (sym (told-held l c.args.at w _ _ c.own_words.ensures.start c.own_words.ensures.end c.name_count-count.result c.args.n c.name_count-count.ensures c.drop_name.result c.drop_name.ensures.value)
    ∙ sym c.is_ok-dropped.ensures.value ∙ c.if-dropped.true)

pub returns-else-dropped-clause-value : goal.returns-else-dropped-clause-value
returns-else-dropped-clause-value c =
    λ st l w. c.is_ok-dropped.ensures.value
    ∙ told-held l c.args.at w _ _ c.own_words.ensures.start c.own_words.ensures.end c.name_count-count.result c.args.n c.name_count-count.ensures c.drop_name.result c.drop_name.ensures.value

pub returns-else-dropped-clause-laid : goal.returns-else-dropped-clause-laid
returns-else-dropped-clause-laid c =
    λ st l w. not-dropped-here l c.args.at w _ _ c.own_words.ensures.start c.own_words.ensures.end c.drop_name.new.ns c.drop_name.auto.ns c.args.n
    (rw c.name_count-count.ensures at c.drop_name.ensures.ns_after)
    (sym (told-held l c.args.at w _ _ c.own_words.ensures.start c.own_words.ensures.end c.name_count-count.result c.args.n c.name_count-count.ensures c.drop_name.result c.drop_name.ensures.value)
    ∙ sym c.is_ok-dropped.ensures.value ∙ c.if-dropped.false)
