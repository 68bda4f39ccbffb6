-- `names::pid_held` meets its contract: the words of the s_group are those of its names.
-- Assumes nothing.
use Rattle.std.proofs.Common.{◌∙◌}
use Rattle.names.specs.NamesHere.{pid-here}
use Rattle.names.proofs.pid_held.Goals as goal

pub returns : goal.returns
returns c =
    λ st l w. c.unwrap_or.ensures ∙ rw (c.holds_pid.ensures, c.count.ensures, pid-here l c.args.g.at w c.names.result.now c.names.ensures c.args.p)
