-- `refusal_head::is_slip` meets its contract: by the reason, the place, the book.
-- Assumes nothing.
use Rattle.std.proofs.Common.{sym, ◌∙◌, lt-ltb, le-ltb}
use denote.Enum.Bare.{differs_true, differs_false}
use Rattle.answers.specs.contracts.Reason.{the_type}
use Rattle.answers.specs.declared.Reason.TheVariants.{NoLaunchFile}
use Rattle.answers.specs.Numbers.{other-number}
use Rattle.refusal_head.specs.Refusal.{slip}
use Rattle.refusal_head.proofs.is_slip.Goals as goal

pub returns-then-ne : goal.returns-then-ne
unfolding slip
returns-then-ne c =
    let f = differs_true the_type c.args.reason NoLaunchFile (sym c.ne.ensures ∙ c.if-ne.true) in
    rw (other-number NoLaunchFile c.args.reason (λ e. f (sym e)))

pub returns-then-place-gt0 : goal.returns-then-place-gt0
unfolding slip
returns-then-place-gt0 c =
    let e = differs_false the_type tt c.args.reason NoLaunchFile (sym c.ne.ensures ∙ c.if-ne.false) in
    rw (e, lt-ltb 0 c.args.place c.if-place-gt0.true)

pub returns-else-place-gt0 : goal.returns-else-place-gt0
unfolding slip
returns-else-place-gt0 c =
    let e = differs_false the_type tt c.args.reason NoLaunchFile (sym c.ne.ensures ∙ c.if-ne.false) in
    rw (e, le-ltb 0 c.args.place c.if-place-gt0.false) c.fit.ensures.0
