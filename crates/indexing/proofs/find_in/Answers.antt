-- `indexing::find_in` meets its contract: the place of the s_group is known, or there is none of the name. Assumes nothing.
use mathlib.Core.Path.{sym, ap, ◌∙◌}
use Rattle.std.specs.Prelude.{Ok}
use Rattle.semantics.specs.Table.{state_of}
use Rattle.place.specs.Sound.{here, regular, base, sought-here}
use Rattle.names.specs.NamesHere.{standing}
use Rattle.indexes.specs.Updates.{pid_in}
use Rattle.indexing.specs.PidFound.{pid_found, pid_beside, beside-found}
use Rattle.indexing.specs.Found.{found-there, found_below, no-seat}
use Rattle.indexing.proofs.find_in.Goals as goal

pub returns-in_default : goal.returns-in_default
unfolding state_of
returns-in_default c = sym (ap (pid_in c.args.n) (no-seat c.args.t.words.now c.args.t.fit c.args.s c.place_of.result c.place_of.ensures c.in_default.not-Ok))

pub invariant_of-find_name-clause-below : goal.invariant_of-find_name-clause-below
unfolding state_of
invariant_of-find_name-clause-below c =
    let t = c.args.t.words.now in
    let seat = sought-here t c.args.t.fit c.args.s c.place_of.result (Ok c.in-Ok.at) c.place_of.ensures c.in-Ok.is in
    found_below t c.args.t.fit seat

pub returns-in_err-pid : goal.returns-in_err-pid
unfolding state_of
returns-in_err-pid c =
    let t = c.args.t.words.now in
    let seat = sought-here t c.args.t.fit c.args.s c.place_of.result (Ok c.in-Ok.at) c.place_of.ensures c.in-Ok.is in
    ap pid_found c.from_residual.ensures ∙ ap pid_beside c.in_err-pid.ensures.value ∙ beside-found c.find_name.result
    ∙ found-there (here t) c.args.n seat (c.find_name.ensures (here t) (base t c.args.t.fit) (standing (regular t c.args.t.fit) seat))

pub returns : goal.returns
unfolding state_of
returns c =
    let t = c.args.t.words.now in
    let seat = sought-here t c.args.t.fit c.args.s c.place_of.result (Ok c.in-Ok.at) c.place_of.ensures c.in-Ok.is in
    ap pid_beside c.in_ok-pid.ensures.value ∙ beside-found c.find_name.result
    ∙ found-there (here t) c.args.n seat (c.find_name.ensures (here t) (base t c.args.t.fit) (standing (regular t c.args.t.fit) seat))
