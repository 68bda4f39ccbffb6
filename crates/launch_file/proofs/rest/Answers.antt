-- `launch_file::rest` meets its contract: each list ends where the one in it led, and the full stop stands behind. Assumes nothing.
use Rattle.launch_file.specs.Lists.{rest-cut, rest-open, kernel-stops, kernel-open, rest-stops, rest_read}
use Rattle.launch_file.proofs.Exits.{handed_on}
use Rattle.launch_file.proofs.rest.Goals as goal

pub returns-in_err-pass_groups : goal.returns-in_err-pass_groups
returns-in_err-pass_groups c = rw (handed_on c.from_residual.result c.from_residual.ensures.1) (rest-cut _ _ _ c.in_err-pass_groups.ensures)

pub returns-in_err-groups : goal.returns-in_err-groups
returns-in_err-groups c =
    rw (handed_on c.from_residual-in_err-groups.result c.from_residual-in_err-groups.ensures.1)
    (rest-open _ _ _ c.in_ok-pass_groups.ensures _ c.in_err-groups.ensures)

pub returns-in_err-to_end : goal.returns-in_err-to_end
returns-in_err-to_end c =
    rw (handed_on c.from_residual-in_err-to_end.result c.from_residual-in_err-to_end.ensures.1)
    (kernel-stops _ _ _ c.in_ok-pass_groups.ensures _ c.in_ok-groups.ensures _ c.in_err-to_end.ensures)

pub returns-in_err-entry : goal.returns-in_err-entry
returns-in_err-entry c =
    rw (handed_on c.from_residual-in_err-entry.result c.from_residual-in_err-entry.ensures.1)
    (kernel-open _ _ _ c.in_ok-pass_groups.ensures _ c.in_ok-groups.ensures _ c.in_ok-to_end.ensures _ c.in_err-entry.ensures)

pub returns-in_err-to_end-2 : goal.returns-in_err-to_end-2
returns-in_err-to_end-2 c =
    rw (handed_on c.from_residual-in_err-to_end-2.result c.from_residual-in_err-to_end-2.ensures.1)
    (rest-stops _ _ _ c.in_ok-pass_groups.ensures _ c.in_ok-groups.ensures _ c.in_ok-to_end.ensures _ c.in_ok-entry.ensures _ c.in_err-to_end-2.ensures)

pub returns : goal.returns
returns c =
    rw c.ending.ensures
    (rest_read _ _ _ c.in_ok-pass_groups.ensures _ c.in_ok-groups.ensures _ c.in_ok-to_end.ensures _ c.in_ok-entry.ensures _ c.in_ok-to_end-2.ensures)
