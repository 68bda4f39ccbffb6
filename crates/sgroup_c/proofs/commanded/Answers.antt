-- `sgroup_c::commanded` meets its contract: with room for the answer it is the call's of the number's command, and without it nothing is called.
-- Assumes nothing.
use mathlib.Core.List.{[]}
use Rattle.semantics.specs.Call.{call}
use Rattle.answer_words.specs.Told.{silent-table, tells-table}
use Rattle.std.proofs.Common.{sym, ◌∙◌}
use Rattle.std.proofs.lemmas.Option.{same_Some, none-some}
use Rattle.sgroup_c.proofs.commanded.Goals as goal

pub returns-then-answer-lt-ANSWER_WORDS : goal.returns-then-answer-lt-ANSWER_WORDS
returns-then-answer-lt-ANSWER_WORDS c = λ command known.
    let a = c.args in
    silent-table (call 0 a.caller command a.table.now) a.answer.now [] a.table.now c.if-answer-lt-ANSWER_WORDS.true

pub put-requires : goal.put-requires
put-requires c = c.if-answer-lt-ANSWER_WORDS.false

pub returns-in-Some : goal.returns-in-Some
returns-in-Some c = λ command known.
    let a = c.args in
    rw (same_Some _ _ (sym known ∙ sym c.command_of.ensures ∙ c.in-Some.is))
    (tells-table (call 0 a.caller c.in-Some.command a.table.now) a.answer.now [] a.table.now c.if-answer-lt-ANSWER_WORDS.false (c.call.ensures.value, c.call.ensures.table_after) (c.put.ensures.value, c.put.ensures.run_after))

pub returns-in-None : goal.returns-in-None
returns-in-None c = λ command known. absurd (none-some _ (sym c.in-None.is ∙ c.command_of.ensures ∙ known))
