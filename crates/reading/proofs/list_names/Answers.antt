-- `reading::list_names` meets its contract: the words of the s_group are those of its names, and their list is written where the run has room.
-- Assumes nothing.
use Rattle.returns.specs.Listing.{list-told, list-short}
use Rattle.reading.proofs.list_names.Goals as goal

pub returns-in-Ok : goal.returns-in-Ok
returns-in-Ok c =
    let a = c.args in
    λ st l w.
    rw c.done.ensures (list-told l a.g.at w c.names.result.now c.names.ensures a.s c.count.result c.count.ensures a.out.now
    c.list_names.result c.list_names.new.out c.list_names.ensures.value c.list_names.ensures.out_after c.in-Ok.is)

pub returns-in-Err : goal.returns-in-Err
returns-in-Err c =
    let a = c.args in
    λ st l w.
    rw c.refused.ensures (list-short l a.g.at w c.names.result.now c.names.ensures a.s c.count.result c.count.ensures a.out.now
    c.list_names.result c.list_names.new.out c.list_names.ensures.value c.list_names.ensures.out_after c.in-Err.is)
