-- `groups::set_members` meets its contract: the word of its members is stored.
-- Assumes nothing.
use Rattle.groups.specs.Regrouped.{remanned}
use Rattle.groups.proofs.set_members.Goals as goal

pub returns : goal.returns
returns c = λ st l x y g is stands. remanned l x y c.args.at stands g is c.args.set
