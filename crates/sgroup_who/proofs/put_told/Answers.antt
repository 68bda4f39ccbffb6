-- `sgroup_who::put_told` meets its contract: the list of the reading, beside the index that was written.
use Rattle.std.proofs.Common.{sym, ap, ◌∙◌, length-take-le}
use Rattle.print.specs.Sheets.{put}
use Rattle.sgroup_who.specs.Reported.{list-within, told-by}
use Rattle.sgroup_who.proofs.put_told.Goals as goal

pub slice_bounds-list-end : goal.slice_bounds-list-end
slice_bounds-list-end c =
    list-within c.args.p c.args.table.now _ _ _ _ c.write.ensures.index_after c.names_of-answer.ensures.value c.names_of-answer.ensures.out_after c.count_of-count.ensures

pub slice_bounds-put_who-end : goal.slice_bounds-put_who-end
slice_bounds-put_who-end c =
    sym (length-take-le _ _ (list-within c.args.p c.args.table.now _ _ _ _ c.write.ensures.index_after c.names_of-answer.ensures.value c.names_of-answer.ensures.out_after c.count_of-count.ensures))

pub returns : goal.returns
returns c =
    c.put_who.ensures
    ∙ ap (put _) (told-by c.args.p c.args.table.now _ _ _ _ c.write.ensures.index_after c.names_of-answer.ensures.value c.names_of-answer.ensures.out_after c.count_of-count.ensures)
