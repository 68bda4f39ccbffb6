-- `reading::registered_names` meets its contract: refused by its arguments, denied by its place, or the list of its names.
-- Assumes nothing.
use lib.ListN.{length}
use Rattle.semantics.specs.Table.{state_of}
use Rattle.returns.specs.Judged.{step-names}
use Rattle.place.specs.Sound.{here, regular, base}
use Rattle.names.specs.NamesHere.{standing}
use Rattle.returns.specs.Ends.{open-below, opened, lists-refused, lists-denied, lists-told}
use Rattle.reading.proofs.registered_names.Goals as goal

pub returns-in-Err : goal.returns-in-Err
unfolding state_of
returns-in-Err c =
    let t = c.args.t.words.now in
    rw c.refused.ensures (lists-refused t c.args.t.fit c.args.out.now (step-names (length c.args.out.now) c.args.caller (here t) c.args.s) (rw c.size.ensures.value at c.check_group.ensures) c.in-Err.is)

pub invariant_of-list_names-clause-below : goal.invariant_of-list_names-clause-below
invariant_of-list_names-clause-below c =
    open-below c.args.t.words.now c.args.t.fit ((opened c.args.t.words.now c.args.t.fit c.args.caller c.args.s c.place_for.result c.place_for.ensures c.in-Ok.is))

pub returns-in-Ok : goal.returns-in-Ok
unfolding state_of
returns-in-Ok c =
    let t = c.args.t.words.now in
    lists-told t c.args.t.fit c.args.out.now (step-names (length c.args.out.now) c.args.caller (here t) c.args.s) (rw c.size.ensures.value at c.check_group.ensures) c.in_default.is ((opened c.args.t.words.now c.args.t.fit c.args.caller c.args.s c.place_for.result c.place_for.ensures c.in-Ok.is)) c.list_names.new.out
    (c.list_names.ensures (here t) (base t c.args.t.fit) (standing (regular t c.args.t.fit) ((opened c.args.t.words.now c.args.t.fit c.args.caller c.args.s c.place_for.result c.place_for.ensures c.in-Ok.is)).seat))

pub returns-in-Err-place_for : goal.returns-in-Err-place_for
unfolding state_of
returns-in-Err-place_for c =
    let t = c.args.t.words.now in
    rw c.said.ensures (lists-denied t c.args.t.fit c.args.out.now (step-names (length c.args.out.now) c.args.caller (here t) c.args.s) (rw c.size.ensures.value at c.check_group.ensures) c.in_default.is
    c.place_for.result c.place_for.ensures c.in-Err-place_for.is)
