-- `creating::create` meets its contract: what is left to make grows less by one s_group a turn.
-- Assumes nothing.
use Rattle.std.proofs.Common.{rules, sym, arith, length-append}
use Rattle.std.proofs.lemmas.Slice.Zip.{zip_turn, zip_end}
use Rattle.pairs.specs.Plans.{made_of, paired-length, paired-get}
use Rattle.creating.specs.CreatingLaws.{makes, made_all}
use Rattle.creating.proofs.create.Goals as goal

pub loop-number-preserved : goal.loop-number-preserved
loop-number-preserved c =
    let v = c.loop-number in
    let a = c.args in
    let turn = zip_turn a.numbers.now a.sets.now v.yielded c.into_iter-number-iterator.result v.number-iterator c.next.new.self c.next.result (search rules) (search rules) v.yielded_by _ c.in-Some.is c.next.ensures.steps in
    simp length-append (makes _ _ _ _ (made_of 0 0) (made_of c.in-Some.number.now c.in-Some.members.now) v.invariant
    (omega (arith, paired-length a.numbers.now a.sets.now c.requires.numbers_len, turn.0))
    (rw (turn.2 0, turn.3 0) (sym (paired-get a.numbers.now a.sets.now _ c.requires.numbers_len)))
    (rw c.from-s.ensures at c.from-s.type_inv) (omega arith) (rw (c.lowest-maker.ensures, c.from-s.ensures) at c.new_s_group.ensures.t_after))

pub returns : goal.returns
returns c =
    let v = c.loop-number in
    let a = c.args in
    let end = zip_end a.numbers.now a.sets.now v.yielded c.into_iter-number-iterator.result v.number-iterator c.next.new.self c.next.result (search rules) (search rules) v.yielded_by c.in-None.is c.next.ensures.steps in
    made_all _ _ _ _ v.invariant (omega (arith, paired-length a.numbers.now a.sets.now c.requires.numbers_len, end))
