-- `launch_report::Atoms::put_own` meets its contract: by whether some of them has the node.
-- Assumes nothing.
use Rattle.std.proofs.Common.{sym, ◌∙◌}
use Rattle.print.specs.Puts.{puts_as}
use Rattle.launch_report.specs.Telling.{own-some, own-none}
use Rattle.launch_report.proofs.Atoms.put_own.Goals as goal

pub returns-then-has : goal.returns-then-has
returns-then-has c =
    let t = c.args.table in
    puts_as c.put_own_groups.ensures (own-some _ t.sized t.fit _ c.members-members.ensures _ _ c.union_all-grouped.ensures _ _ (sym c.has.ensures ∙ c.if-has.true))

pub returns-else-has : goal.returns-else-has
returns-else-has c =
    let t = c.args.table in
    puts_as c.put_bytes.ensures (own-none _ t.sized t.fit _ c.members-members.ensures _ _ c.union_all-grouped.ensures _ _ (sym c.has.ensures ∙ c.if-has.false))
