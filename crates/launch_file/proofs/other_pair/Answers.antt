-- `launch_file::other_pair` meets its contract: each step is taken where the one before led. Assumes nothing.
use Rattle.std.proofs.Common.{sym}
use Rattle.launch_file.specs.Pairs.{other_cut, other-read, other-ends}
use Rattle.launch_file.proofs.Exits.{handed_on}
use Rattle.launch_file.proofs.other_pair.Goals as goal

pub returns-in_err-value : goal.returns-in_err-value
returns-in_err-value c = rw (handed_on c.from_residual.result c.from_residual.ensures.1) (other_cut _ _ _ _ (sym c.in_err-value.ensures))

pub returns-in_err-past : goal.returns-in_err-past
returns-in_err-past c =
    rw (handed_on c.from_residual-in_err-past.result c.from_residual-in_err-past.ensures.1)
    (other-read _ _ _ _ (sym c.in_ok-value.ensures) _ c.in_err-past.ensures)

pub returns-in_err-sign_at : goal.returns-in_err-sign_at
returns-in_err-sign_at c =
    rw (handed_on c.from_residual-in_err-sign_at.result c.from_residual-in_err-sign_at.ensures.1)
    (other-ends _ _ _ _ _ (sym c.in_ok-value.ensures) c.in_ok-past.ensures _ (sym c.in_err-sign_at.ensures))

pub returns : goal.returns
returns c = other-ends _ _ _ _ _ (sym c.in_ok-value.ensures) c.in_ok-past.ensures _ (sym c.in_ok-sign_at.ensures)
