-- `names::look_up` meets its contract: the words of the s_group are those of its names, and its members tell of the host.
-- Assumes nothing.
use Rattle.std.proofs.Common.{◌∙◌}
use Rattle.names.specs.NamesHere.{seen_here}
use Rattle.names.proofs.look_up.Goals as goal

pub returns : goal.returns
returns c =
    λ st l w. c.look_up.ensures ∙ rw (c.count.ensures, c.members.ensures) (seen_here l c.args.g.at w c.names.result.now c.names.ensures c.args.n c.args.g.below)
