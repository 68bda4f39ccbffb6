-- `reading::whereis_name` meets its contract: refused by its arguments, or what the lookup finds.
-- Assumes nothing.
use mathlib.Core.Path.{sym, ap, ◌∙◌}
use Rattle.semantics.specs.Steps.{Looked, tell}
use Rattle.semantics.specs.Table.{state_of}
use Rattle.returns.specs.Judged.{step-whereis, refused}
use Rattle.place.specs.Sound.{here}
use Rattle.returns.specs.Shown.{answers}
use Rattle.names.specs.Looked.{looked_up}
use Rattle.reading.specs.Asking.{whereis-told}
use Rattle.reading.proofs.whereis_name.Goals as goal

pub returns-in-Err : goal.returns-in-Err
unfolding state_of
returns-in-Err c =
    rw c.refused.ensures (answers c.args.t.words.now c.args.t.fit
    (refused (step-whereis 0 c.args.caller (here c.args.t.words.now) c.args.s c.args.n).judging (rw c.size.ensures.value at c.check_name.ensures) c.in-Err.is))

pub returns-in-Ok : goal.returns-in-Ok
unfolding state_of
returns-in-Ok c =
    rw c.said.ensures ((let t = c.args.t.words.now in ap (λ (x : Looked). (tell x (here t)).answer) (ap looked_up (sym c.in-Ok.is) ∙ c.look.ensures) ∙ answers t c.args.t.fit (whereis-told 0 c.args.caller c.args.s c.args.n (here t) (rw c.size.ensures.value at c.check_name.ensures) c.in_default.is)))

pub returns-in-Err-look : goal.returns-in-Err-look
unfolding state_of
returns-in-Err-look c =
    rw c.said-in-Err-look.ensures ((let t = c.args.t.words.now in ap (λ (x : Looked). (tell x (here t)).answer) (ap looked_up (sym c.in-Err-look.is) ∙ c.look.ensures) ∙ answers t c.args.t.fit (whereis-told 0 c.args.caller c.args.s c.args.n (here t) (rw c.size.ensures.value at c.check_name.ensures) c.in_default.is)))
