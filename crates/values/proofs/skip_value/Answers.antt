-- `values::skip_value` meets its contract: the byte behind the white space decides.
-- Assumes nothing.
use Rattle.std.proofs.Common.{arith}
use Rattle.grammar.specs.File.{list, tuple}
use Rattle.values.specs.Skips.{value-cut, value_opens, value-plain}
use Rattle.values.proofs.skip_value.Goals as goal

pub returns-then-text-i : goal.returns-then-text-i
returns-then-text-i c = value-cut _ _ _ c.past_white-i.ensures c.if-text-i.true

pub returns-in-91 : goal.returns-in-91
returns-in-91 c = rw c.answer.ensures (value_opens _ _ _ c.past_white-i.ensures c.if-text-i.false list c.in-91.is _ c.skip_list.ensures)

pub returns-in-123 : goal.returns-in-123
returns-in-123 c = rw c.answer-in-123.ensures (value_opens _ _ _ c.past_white-i.ensures c.if-text-i.false tuple c.in-123.is _ c.skip_tuple.ensures)

pub returns-in_default : goal.returns-in_default
returns-in_default c =
    rw c.answer-in_default.ensures
    (value-plain _ _ _ c.past_white-i.ensures c.if-text-i.false (λ e. omega arith) (λ e. omega arith) _ c.plain.ensures)
