-- `launch_file::front` meets its contract: the own entry of the file's list leads to the kernel entry, and that list's to the groups. Assumes nothing.
use Rattle.std.proofs.Common.{sym}
use Rattle.launch_file.specs.Lists.{front_cut, front-stops, front_read}
use Rattle.launch_file.proofs.Exits.{handed_on}
use Rattle.launch_file.proofs.front.Goals as goal

pub returns-in_err-pairs : goal.returns-in_err-pairs
returns-in_err-pairs c = rw (handed_on c.from_residual.result c.from_residual.ensures.1) (front_cut _ _ (sym c.in_err-pairs.ensures))

pub returns-in_err-entry : goal.returns-in_err-entry
returns-in_err-entry c =
    rw (handed_on c.from_residual-in_err-entry.result c.from_residual-in_err-entry.ensures.1)
    (front-stops _ _ (sym c.in_ok-pairs.ensures) _ c.in_err-entry.ensures)

pub returns : goal.returns
returns c = front_read _ _ (sym c.in_ok-pairs.ensures) _ c.in_ok-entry.ensures _ c.to_own-2.ensures
