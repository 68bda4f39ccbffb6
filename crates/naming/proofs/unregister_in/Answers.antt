-- `naming::unregister_in` meets its contract: the name goes where it is held, and nothing changes where it is not.
-- Assumes nothing.
use mathlib.Core.Path.{sym, ◌∙◌}
use Rattle.names.specs.NamesHere.{standing}
use Rattle.returns.specs.Settled.{unregistered, not-registered}
use Rattle.naming.proofs.unregister_in.Goals as goal

pub returns-then-drop_name : goal.returns-then-drop_name
returns-then-drop_name c =
    let a = c.args in
    λ st l r s w.
    rw c.done.ensures (unregistered l w a.n c.drop_name.new.t (c.drop_name.ensures.laid st l (standing r w)) (sym (c.drop_name.ensures.value st l (standing r w)) ∙ c.if-drop_name.true))

pub returns : goal.returns
returns c =
    let a = c.args in
    λ st l r s w.
    rw c.said.ensures (not-registered l w a.n c.drop_name.new.t (c.drop_name.ensures.laid st l (standing r w)) (sym (c.drop_name.ensures.value st l (standing r w)) ∙ c.if-drop_name.false))
