-- `connecting::become_free` meets its contract: the lot and the free groups that it touches are found member by member, and merged.
-- Assumes nothing.
use Rattle.connecting.specs.Freeing.{nobody-freed, lot-freed}
use Rattle.connecting.proofs.become_free.Goals as goal

pub returns-then-lot-eq0 : goal.returns-then-lot-eq0
returns-then-lot-eq0 c = λ st l w.
    let u = c.union_all-taken in
    nobody-freed l c.args.gone u.result c.diff.result c.diff-lot.result u.ensures c.diff.ensures c.diff-lot.ensures c.if-lot-eq0.true

pub returns : goal.returns
returns c = λ st l w.
    let u = c.union_all-taken in
    lot-freed l c.args.gone u.result c.diff.result c.diff-lot.result u.ensures c.diff.ensures c.diff-lot.ensures w
    c.unions_at-met.result c.diff-2.result c.diff-near.result c.unions_at-touched.result c.union.result c.merge.new.t
    c.unions_at-met.ensures c.diff-2.ensures c.diff-near.ensures c.unions_at-touched.ensures c.union.ensures (c.merge.ensures st l)
