-- `naming::re_register_in` meets its contract: each return is a case of the rule; a name that is held gets the pid, and one that is not comes in.
-- Assumes nothing.
use mathlib.Core.Path.{sym, ◌∙◌}
use Rattle.names.specs.NamesHere.{standing}
use Rattle.returns.specs.Settled.{not-replaced, pid-held-already, replaced}
use Rattle.naming.specs.Anew.{anew}
use Rattle.naming.proofs.re_register_in.Goals as goal

pub returns-then-pid_held : goal.returns-then-pid_held
returns-then-pid_held c =
    let a = c.args in
    λ st l r s w.
    rw c.said.ensures (pid-held-already l w r a.n a.p (sym (c.pid_held.ensures st l (standing r w)) ∙ c.if-pid_held.true))

pub returns-then-replace_name : goal.returns-then-replace_name
returns-then-replace_name c =
    let a = c.args in
    λ st l r s w.
    rw c.done.ensures (replaced l w r a.n a.p (sym (c.pid_held.ensures st l (standing r w)) ∙ c.if-pid_held.false) (sym (c.replace_name.ensures.value st l (standing r w)) ∙ c.if-replace_name.true)
    c.replace_name.new.t (c.replace_name.ensures.laid st l (standing r w)))

pub returns : goal.returns
returns c =
    let a = c.args in
    λ st l r s w.
    let missing = (sym (c.replace_name.ensures.value st l (standing r w)) ∙ c.if-replace_name.false) in
    let fresh = sym (c.pid_held.ensures st l (standing r w)) ∙ c.if-pid_held.false in
    anew st w a.n a.p missing fresh (c.register_new.ensures st ((let a = c.args in not-replaced a.at a.n a.p st ((sym (c.replace_name.ensures.value st l (standing r w)) ∙ c.if-replace_name.false)) (c.replace_name.ensures.laid st l (standing r w)))) r s w missing fresh)
