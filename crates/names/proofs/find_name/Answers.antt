-- `names::find_name` meets its contract: the words of the s_group are those of its names.
-- Assumes nothing.
use Rattle.std.proofs.Common.{◌∙◌}
use Rattle.names.specs.NamesHere.{found_here}
use Rattle.names.proofs.find_name.Goals as goal

pub returns : goal.returns
returns c = λ st l w. c.find.ensures ∙ rw c.count.ensures (found_here l c.args.g.at w c.names.result.now c.names.ensures c.args.n)
