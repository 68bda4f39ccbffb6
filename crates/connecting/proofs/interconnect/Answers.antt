-- `connecting::interconnect` meets its contract: the connections are lent and put back.
-- Assumes nothing.
use Rattle.semantics.specs.Steps.{interconnect}
use Rattle.semantics.specs.WordsOfState.{links-put}
use Rattle.connecting.proofs.interconnect.Goals as goal

pub returns : goal.returns
returns c = λ st l.
    let d = c.interconnect in
    links-put l (interconnect c.args.set) d.new.links d.auto.links d.ensures
