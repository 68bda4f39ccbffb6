-- `sgroup_c::with_index::sgroup_index` meets its contract: with room for the answer it is the call's, and without it nothing is called.
-- Assumes nothing.
use Rattle.answer_words.specs.Told.{silent-written, tells-written}
use Rattle.sgroup_c.proofs.with_index.sgroup_index.Goals as goal

pub returns-then-answer-lt-ANSWER_WORDS : goal.returns-then-answer-lt-ANSWER_WORDS
returns-then-answer-lt-ANSWER_WORDS c =
    let a = c.args in
    let both = silent-written a.table.now a.index.now a.answer.now c.if-answer-lt-ANSWER_WORDS.true in record { value = both.0; answer_after = both.1.0; index_after = both.1.1 }

pub put-requires : goal.put-requires
put-requires c = c.if-answer-lt-ANSWER_WORDS.false

pub returns : goal.returns
returns c =
    let a = c.args in
    let both = tells-written a.table.now a.index.now a.answer.now c.if-answer-lt-ANSWER_WORDS.false (c.write.ensures.value, c.write.ensures.index_after) (c.put.ensures.value, c.put.ensures.run_after) in record { value = both.0; answer_after = both.1.0; index_after = both.1.1 }
