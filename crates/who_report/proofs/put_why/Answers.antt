-- `who_report::put_why` meets its contract: nothing is said of another reason.
-- Assumes nothing.
use Rattle.answers.specs.declared.Reason.TheVariants.{Unsound, NodeUnknown}
use Rattle.answers.specs.Numbers.{other-number}
use Rattle.print.specs.Puts.{puts_none}
use Rattle.who_report.specs.Who.{why}
use Rattle.who_report.proofs.put_why.Goals as goal

pub returns-in_default : goal.returns-in_default
unfolding why
returns-in_default c =
    rw (other-number c.args.reason Unsound c.in_default.not-Unsound, other-number c.args.reason NodeUnknown c.in_default.not-NodeUnknown) puts_none
