-- `sgroup_c::sgroup_registered_names` meets its contract: with room for the answer it is the call's, and without it nothing is called.
-- Assumes nothing.
use lib.ListN.{length}
use Rattle.commands.specs.declared.Command.TheVariants.{RegisteredNames}
use Rattle.semantics.specs.Call.{call}
use Rattle.answer_words.specs.Told.{silent-list, tells-list}
use Rattle.sgroup_c.proofs.sgroup_registered_names.Goals as goal

pub returns-then-answer-lt-ANSWER_WORDS : goal.returns-then-answer-lt-ANSWER_WORDS
returns-then-answer-lt-ANSWER_WORDS c =
    let a = c.args in
    let both = silent-list (call (length a.out.now) a.caller (RegisteredNames a.s) a.table.now) a.answer.now a.out.now a.table.now c.if-answer-lt-ANSWER_WORDS.true in record { value = both.0; answer_after = both.1.0; out_after = both.1.1 }

pub put-requires : goal.put-requires
put-requires c = c.if-answer-lt-ANSWER_WORDS.false

pub returns : goal.returns
returns c =
    let a = c.args in
    let both = tells-list (call (length a.out.now) a.caller (RegisteredNames a.s) a.table.now) a.answer.now a.out.now a.table.now c.if-answer-lt-ANSWER_WORDS.false (c.registered_names.ensures.value, c.registered_names.ensures.out_after) (c.put.ensures.value, c.put.ensures.run_after) in record { value = both.0; answer_after = both.1.0; out_after = both.1.1 }
