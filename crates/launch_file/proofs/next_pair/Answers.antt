-- `launch_file::next_pair` meets its contract: what stands in the list decides. Assumes nothing.
use borrow.Author.Rules.{part_to_end}
use Rattle.std.proofs.Common.{Ok, sym, ap, ◌∙◌, arith}
use Rattle.launch_file.specs.Pairs.{next-stops, next-pairs, next-closed, next-missing, closed-within}
use Rattle.launch_file.proofs.Exits.{handed_on}
use Rattle.launch_file.proofs.next_pair.Goals as goal

pub returns-in_err-n : goal.returns-in_err-n
returns-in_err-n c =
    rw (handed_on c.from_residual.result c.from_residual.ensures.1)
    (next-stops _ _ _ _ _ _ (rw (part_to_end c.args.text.now 0) at (sym c.in_err-n.ensures)))

pub overflow_sub-result : goal.overflow_sub-result
overflow_sub-result c =
    let a = c.args in
    omega (arith, closed-within _ _ _ a.own.now a.found _ (rw (part_to_end a.text.now 0) at (sym c.in_ok-n.ensures ∙ ap Ok c.in-Closed-2.is)))

pub returns-in-Group : goal.returns-in-Group
returns-in-Group c =
    let a = c.args in
    next-pairs _ _ _ _ _ _ (rw (part_to_end a.text.now 0) at (sym c.in_ok-n.ensures ∙ ap Ok c.in-Group.is)) _
    (rw (part_to_end a.text.now 0, part_to_end a.own.now 0) at c.pair_at.ensures)

pub returns-in-Closed : goal.returns-in-Closed
returns-in-Closed c = next-closed _ _ _ _ _ _ (rw (part_to_end c.args.text.now 0) at (sym c.in_ok-n.ensures ∙ ap Ok c.in-Closed.is)) c.if-found.true

pub returns-in-Closed-2 : goal.returns-in-Closed-2
returns-in-Closed-2 c = next-missing _ _ _ _ _ _ (rw (part_to_end c.args.text.now 0) at (sym c.in_ok-n.ensures ∙ ap Ok c.in-Closed.is)) c.if-found.false
