-- `turns::called` meets its contract: the line of the call, and the table that it leaves.
-- Assumes nothing.
use mathlib.Core.Path.{sym}
use lib.Seq.{length-take-le}
use Rattle.print.specs.Puts.{puts_as}
use Rattle.turns.specs.Turns.{request_turn}
use Rattle.turns.specs.Called.{list-within, call_printed}
use Rattle.turns.proofs.called.Goals as goal

pub slice_bounds-put_answer-end : goal.slice_bounds-put_answer-end
slice_bounds-put_answer-end c =
    let a = c.args in
    let k = c.call-answer.ensures in
    list-within a.caller a.command a.table.now a.words.now _ _ _ k.value k.out_after c.count_of-count.ensures

pub slice_bounds-put_answer-end-2 : goal.slice_bounds-put_answer-end-2
slice_bounds-put_answer-end-2 c =
    let a = c.args in
    let k = c.call-answer.ensures in
    sym (length-take-le _ _ (list-within a.caller a.command a.table.now a.words.now _ _ _ k.value k.out_after c.count_of-count.ensures))

pub returns-clause-puts : goal.returns-clause-puts
unfolding request_turn
returns-clause-puts c =
    let a = c.args in
    let k = c.call-answer.ensures in
    let h = call_printed a.caller a.command a.table.now a.words.now _ _ _ _ k.value k.table_after k.out_after c.count_of-count.ensures c.requires in
    puts_as c.put_answer.ensures h.0

pub returns-clause-left : goal.returns-clause-left
unfolding request_turn
returns-clause-left c =
    let a = c.args in
    let k = c.call-answer.ensures in
    (call_printed a.caller a.command a.table.now a.words.now _ _ _ _ k.value k.table_after k.out_after c.count_of-count.ensures c.requires).1
