-- `launch_report::Atoms::put_groups` meets its contract: the lines of the s_groups that are left are still to be put.
-- Assumes nothing.
use Rattle.std.proofs.Common.{◌≡◌, refl, sym, ◌∙◌, le_of_eq, length-append}
use Rattle.std.specs.Slice.Iter.{iter_rest}
use Rattle.std.specs.Iterator.Adapters.{zip_first, zip_second}
use Rattle.std.proofs.lemmas.Slice.Zip.{zip_turn, zip_end}
use Rattle.print.specs.Puts.{leaves_less, leaves_none, puts_as}
use Rattle.launch_report.specs.Telling.{groups_turn, groups_over, table_lines}
use Rattle.launch_report.proofs.Atoms.put_groups.Goals as goal

pub loop-word-preserved : goal.loop-word-preserved
loop-word-preserved c =
    let first : iter_rest (zip_first c.into_iter-word-iterator.result) ≡ c.contents.result.now = cc in
    let second : iter_rest (zip_second c.into_iter-word-iterator.result) ≡ c.members.result.now = cc in
    let t = zip_turn _ _ _ c.into_iter-word-iterator.result c.loop-word.word-iterator c.next.new.self _ (first ∙ c.contents.ensures) (second ∙ c.members.ensures) c.loop-word.yielded_by _ c.in-Some.is c.next.ensures.steps in
    simp length-append (leaves_less c.loop-word.invariant (groups_turn _ _ _ _ _ t.0 t.1 _ _ (t.2 0) (t.3 0)) (rw c.group_name.ensures at c.put_group_line.ensures))

pub returns : goal.returns
returns c =
    let first : iter_rest (zip_first c.into_iter-word-iterator.result) ≡ c.contents.result.now = cc in
    let second : iter_rest (zip_second c.into_iter-word-iterator.result) ≡ c.members.result.now = cc in
    let over = zip_end _ _ _ c.into_iter-word-iterator.result c.loop-word.word-iterator c.next.new.self _ (first ∙ c.contents.ensures) (second ∙ c.members.ensures) c.loop-word.yielded_by c.in-None.is c.next.ensures.steps in
    let t = c.args.table in
    puts_as (leaves_none c.loop-word.invariant (groups_over _ _ _ _ _ (le_of_eq (sym over)))) (table_lines _ t.sized t.fit _ refl _ refl _ _)
