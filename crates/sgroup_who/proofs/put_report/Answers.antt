-- `sgroup_who::put_report` meets its contract: what is said in the table that the script leaves.
use Rattle.std.proofs.Common.{ap, ◌∙◌}
use Rattle.print.specs.Sheets.{put}
use Rattle.sgroup_who.specs.Reported.{after-script}
use Rattle.sgroup_who.proofs.put_report.Goals as goal

pub returns : goal.returns
returns c = c.put_told.ensures ∙ ap (put _) (after-script _ _ _ c.run_script.ensures)
