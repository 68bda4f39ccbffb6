-- `sgroup_c::sgroup_whereis_name` meets its contract: with room for the answer it is the call's, and without it nothing is called.
-- Assumes nothing.
use mathlib.Core.List.{[]}
use Rattle.commands.specs.declared.Command.TheVariants.{WhereisName}
use Rattle.semantics.specs.Call.{call}
use Rattle.answer_words.specs.Told.{silent, tells}
use Rattle.sgroup_c.proofs.sgroup_whereis_name.Goals as goal

pub returns-then-answer-lt-ANSWER_WORDS : goal.returns-then-answer-lt-ANSWER_WORDS
returns-then-answer-lt-ANSWER_WORDS c =
    let a = c.args in
    let both = silent (call 0 a.caller (WhereisName a.s a.n) a.table.now) a.answer.now [] a.table.now c.if-answer-lt-ANSWER_WORDS.true in record { value = both.0; answer_after = both.1 }

pub put-requires : goal.put-requires
put-requires c = c.if-answer-lt-ANSWER_WORDS.false

pub returns : goal.returns
returns c =
    let a = c.args in
    let both = tells (call 0 a.caller (WhereisName a.s a.n) a.table.now) a.answer.now [] a.table.now c.if-answer-lt-ANSWER_WORDS.false c.whereis_name.ensures (c.put.ensures.value, c.put.ensures.run_after) in record { value = both.0; answer_after = both.1 }
