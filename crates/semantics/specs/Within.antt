-- A command that names one s_group is a command: its step is the same in both, since the caller is tested in both. Assumes nothing.
use Rattle.std.specs.Prelude.{◌≡◌, refl, true, false, ℕ, leb}
use Rattle.std.proofs.Common.{⊎_elim}
use Rattle.nodes.specs.Bools.{by_test}
use Rattle.semantics.specs.State.{State}
use Rattle.semantics.specs.GroupCommands.{GroupCommand, register_name, re_register_name, unregister_name, whereis_name, registered_names, add_nodes, new_s_group, within}
use Rattle.semantics.specs.Steps.{group_step, outcome, apply, rule, step}

-- after reason 4 it is the step of the s_group
pub rule-within : (room i : ℕ) (c : GroupCommand) (st : State) → rule room i (within c) st ≡ group_step room i c st
unfolding rule
rule-within room i (register_name s n p) st = refl
rule-within room i (re_register_name s n p) st = refl
rule-within room i (unregister_name s n) st = refl
rule-within room i (whereis_name s n) st = refl
rule-within room i (registered_names s) st = refl
rule-within room i (add_nodes s set) st = refl
rule-within room i (new_s_group s set) st = refl

pub step-within : (room i : ℕ) (c : GroupCommand) (st : State) → step room i (within c) st ≡ group_step room i c st
unfolding step group_step outcome apply
step-within room i c st =
    ⊎_elim (λ (e : leb st.size i ≡ true). rw e) (λ (e : leb st.size i ≡ false). rw (rule-within room i c st, e)) (by_test (leb st.size i))
