-- `naming::register_new` meets its contract: the namespace is full, or the name comes in.
-- Assumes nothing.
use native.Mathlib.Omega.{arith}
use Rattle.semantics.specs.NamesKept.{not-held}
use Rattle.names.specs.NamesHere.{standing}
use Rattle.returns.specs.Settled.{no_room, registered}
use Rattle.naming.proofs.register_new.Goals as goal

pub returns-then-count-ge-NAMES_PER_GROUP : goal.returns-then-count-ge-NAMES_PER_GROUP
returns-then-count-ge-NAMES_PER_GROUP c =
    let a = c.args in
    λ st l r s w absent fresh. rw c.said.ensures (no_room l w r a.n a.p absent fresh (omega (arith, c.count-count.ensures, c.if-count-ge-NAMES_PER_GROUP.true)))

pub returns : goal.returns
returns c =
    let a = c.args in
    λ st l r s w absent fresh.
    rw c.done.ensures (registered l w r a.n a.p absent fresh (omega (arith, c.count-count.ensures, c.if-count-ge-NAMES_PER_GROUP.false)) c.add_name.new.t
    (c.add_name.ensures st l (standing r w) (not-held _ absent)))
