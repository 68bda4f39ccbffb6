-- `sgroup_c::with_index::sgroup_names_of` meets its contract: with room for the answer it is the call's, and without it nothing is called.
-- Assumes nothing.
use lib.ListN.{length}
use Rattle.indexes.specs.IndexCalls.{read}
use Rattle.answer_words.specs.Told.{silent-list, tells-list}
use Rattle.sgroup_c.proofs.with_index.sgroup_names_of.Goals as goal

pub returns-then-answer-lt-ANSWER_WORDS : goal.returns-then-answer-lt-ANSWER_WORDS
returns-then-answer-lt-ANSWER_WORDS c =
    let a = c.args in
    let both = silent-list (read (length a.out.now) a.p a.table.now a.index.now) a.answer.now a.out.now a.table.now c.if-answer-lt-ANSWER_WORDS.true in record { value = both.0; answer_after = both.1.0; out_after = both.1.1 }

pub put-requires : goal.put-requires
put-requires c = c.if-answer-lt-ANSWER_WORDS.false

pub returns : goal.returns
returns c =
    let a = c.args in
    let both = tells-list (read (length a.out.now) a.p a.table.now a.index.now) a.answer.now a.out.now a.table.now c.if-answer-lt-ANSWER_WORDS.false (c.names_of.ensures.value, c.names_of.ensures.out_after) (c.put.ensures.value, c.put.ensures.run_after) in record { value = both.0; answer_after = both.1.0; out_after = both.1.1 }
