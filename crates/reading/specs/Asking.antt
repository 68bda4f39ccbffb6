-- The step of whereis_name tells what the caller's lookup finds. Assumes nothing.
use Rattle.std.specs.Prelude.{◌≡◌, Ok, ℕ}
use Rattle.std.proofs.Common.{◌∙◌, arith, ne_eqb}
use Rattle.semantics.specs.State.{State, find}
use Rattle.commands.specs.declared.Command.TheVariants.{WhereisName}
use Rattle.semantics.specs.Steps.{ask, tell}
use Rattle.semantics.proofs.Lookups.{whereis-tells}
use Rattle.inputs.specs.Judge.{Verdict, checked, name_reason}
use Rattle.inputs.proofs.Reasons.{passes}
use Rattle.returns.specs.Judged.{Goes, step-whereis, passed}
use Rattle.inputs.specs.Passed.{group_done, name_done}

pub whereis-told : (room i s n : ℕ) (st : State) {v : Verdict} → v ≡ checked (name_reason st.size i s n) → v ≡ Ok tt
    → Goes room i (WhereisName s n) st (tell (ask i s n st) st)
whereis-told room i s n st e h =
    let s-given = group_done st.size i s (name_done st.size i s n (passes e h)).0 in
    record { is = (passed (step-whereis room i st s n).judging e h).is ∙ whereis-tells i s n st (find s st.groups) ∙ rw (ne_eqb s 0 (λ z. omega (arith, s-given.1, z))) }
