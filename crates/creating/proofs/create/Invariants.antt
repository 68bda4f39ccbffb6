-- `creating::create` meets its contract: what is left to make grows less by one s_group a turn.
-- Assumes nothing.
use Rattle.std.proofs.Common.{length}
use Rattle.pairs.specs.Plans.{paired}
use Rattle.creating.specs.CreatingLaws.{ToMake}
use Rattle.creating.proofs.create.Given as goal

abbrev pub invariant-loop-number : goal.invariant-loop-number
invariant-loop-number l = ToMake (paired l.numbers l.sets) l.initial.t (length l.yielded) l.t
