-- `sgroup_c::sgroup_launch` meets its contract: with room for the answer it is the launch's, and without it nothing is called.
-- Assumes nothing.
use Rattle.launch.specs.Launch.{launch}
use Rattle.sgroup_c.specs.LaunchWords.{launch-silent, launch-tells}
use Rattle.sgroup_c.proofs.sgroup_launch.Goals as goal

pub returns-then-answer-lt-ANSWER_WORDS : goal.returns-then-answer-lt-ANSWER_WORDS
returns-then-answer-lt-ANSWER_WORDS c =
    let a = c.args in
    let both = launch-silent (launch a.n a.hidden a.start a.book.now a.file.now a.table.now) a.answer.now a.table.now c.if-answer-lt-ANSWER_WORDS.true in record { value = both.0; answer_after = both.1.0; table_after = both.1.1 }

pub put-reason-requires : goal.put-reason-requires
put-reason-requires c = c.if-answer-lt-ANSWER_WORDS.false

pub returns : goal.returns
returns c =
    let a = c.args in
    let both = launch-tells a.n a.hidden a.start a.book.now a.file.now a.table.now a.answer.now c.if-answer-lt-ANSWER_WORDS.false (c.launch-launched.ensures.answer_value, (c.launch-launched.ensures.place_value, c.launch-launched.ensures.t_after)) (c.put-reason.ensures.value, c.put-reason.ensures.run_after) in record { value = both.0; answer_after = both.1.0; table_after = both.1.1 }
