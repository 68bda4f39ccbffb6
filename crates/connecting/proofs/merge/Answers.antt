-- `connecting::merge` meets its contract: the connections are lent and put back, and then the free groups.
-- Assumes nothing.
use Rattle.semantics.specs.Steps.{interconnect, one_free_group}
use Rattle.semantics.specs.WordsOfState.{links-put, free-put}
use Rattle.connecting.proofs.merge.Goals as goal

pub returns : goal.returns
returns c = λ st l.
    let set = c.args.set in
    free-put (links-put l (interconnect set) c.interconnect.new.links c.interconnect.auto.links c.interconnect.ensures)
    (one_free_group set) c.one_free_group.new.free c.one_free_group.auto.free c.one_free_group.ensures
