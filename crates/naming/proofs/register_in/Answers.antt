-- `naming::register_in` meets its contract: each return is a case of the rule, and the last is that of a new name.
-- Assumes nothing.
use mathlib.Core.Path.{sym, ◌∙◌}
use Rattle.entries.specs.Entries.{lookup, rank}
use Rattle.names.specs.NamesAt.{names_at}
use Rattle.names.specs.NamesHere.{standing}
use Rattle.returns.specs.Settled.{name-taken, pid-taken}
use Rattle.names.proofs.Changes.{found-held}
use Rattle.naming.proofs.register_in.Goals as goal

pub returns-then-is_ok : goal.returns-then-is_ok
returns-then-is_ok c =
    let a = c.args in
    λ st l r s w.
    rw c.said.ensures (name-taken l w r a.n a.p
    (sym (c.is_ok.ensures.value ∙ found-held (rank a.n (names_at a.at st)) c.find_name.result (lookup a.n (names_at a.at st)) (c.find_name.ensures st l (standing r w))) ∙ c.if-is_ok.true))

pub returns-then-pid_held : goal.returns-then-pid_held
returns-then-pid_held c =
    let a = c.args in
    λ st l r s w.
    let absent = sym (c.is_ok.ensures.value ∙ found-held (rank a.n (names_at a.at st)) c.find_name.result (lookup a.n (names_at a.at st)) (c.find_name.ensures st l (standing r w))) ∙ c.if-is_ok.false in
    rw c.said-then-pid_held.ensures (pid-taken l w r a.n a.p absent (sym (c.pid_held.ensures st l (standing r w)) ∙ c.if-pid_held.true))

pub returns : goal.returns
returns c =
    let a = c.args in
    λ st l r s w.
    let absent = sym (c.is_ok.ensures.value ∙ found-held (rank a.n (names_at a.at st)) c.find_name.result (lookup a.n (names_at a.at st)) (c.find_name.ensures st l (standing r w))) ∙ c.if-is_ok.false in
    c.register_new.ensures st l r s w absent (sym (c.pid_held.ensures st l (standing r w)) ∙ c.if-pid_held.false)
