-- `sgroup_c::with_index::sgroup_open_indexed` meets its contract: with room for the answer it is the call's, and without it nothing is called.
-- Assumes nothing.
use mathlib.Core.List.{[]}
use Rattle.indexes.specs.IndexCalls.{opened}
use Rattle.answer_words.specs.Told.{silent-indexed, tells-indexed}
use Rattle.sgroup_c.proofs.with_index.sgroup_open_indexed.Goals as goal

pub returns-then-answer-lt-ANSWER_WORDS : goal.returns-then-answer-lt-ANSWER_WORDS
returns-then-answer-lt-ANSWER_WORDS c =
    let a = c.args in
    let both = silent-indexed (opened a.n a.hidden a.table.now a.index.now) a.answer.now [] a.table.now a.index.now c.if-answer-lt-ANSWER_WORDS.true in record { value = both.0; answer_after = both.1.0; table_after = both.1.1.0; index_after = both.1.1.1 }

pub put-requires : goal.put-requires
put-requires c = c.if-answer-lt-ANSWER_WORDS.false

pub returns : goal.returns
returns c =
    let a = c.args in
    let both = tells-indexed (opened a.n a.hidden a.table.now a.index.now) a.answer.now [] a.table.now a.index.now c.if-answer-lt-ANSWER_WORDS.false (c.open.ensures.value, (c.open.ensures.table_after, c.open.ensures.index_after)) (c.put.ensures.value, c.put.ensures.run_after) in record { value = both.0; answer_after = both.1.0; table_after = both.1.1.0; index_after = both.1.1.1 }
