-- A verdict as the code takes it apart: an error is the reason, which is not Done, and without one the reason is Done. Assumes nothing.
use Rattle.std.specs.Prelude.{◌≡◌, true, false, Ok, Err}
use Rattle.std.specs.Result.{is_ok}
use Rattle.std.proofs.Common.{sym, ap, ◌∙◌, ⊎_elim}
use Rattle.nodes.specs.Bools.{by_test}
use Rattle.answers.specs.declared.Reason.{Reason}
use Rattle.answers.specs.declared.Reason.TheVariants.{Done}
use Rattle.inputs.specs.Judge.{is_done, Verdict, checked}
use Rattle.inputs.specs.Passed.{done-is}

-- the reason that a verdict gives
abbrev said : Verdict → Reason
said (Ok u) = Done
said (Err r) = r

said-checked : (q : Reason) → said (checked q) ≡ q
said-checked q = ⊎_elim (λ (h : is_done q ≡ true). rw h (sym (done-is q h))) (λ (h : is_done q ≡ false). rw h) (by_test (is_done q))

ok-checked : (q : Reason) → is_ok (checked q) ≡ is_done q
ok-checked q = ⊎_elim (λ (h : is_done q ≡ true). rw h) (λ (h : is_done q ≡ false). rw h) (by_test (is_done q))

module _ {q : Reason} {x : Verdict} (e : x ≡ checked q) where
  pub refuses : {r : Reason} → x ≡ Err r → (r ≡ q) × (is_done r ≡ false)
  refuses {r} h =
      let is : r ≡ q = ap said (sym h ∙ e) ∙ said-checked q in
      (is, ap is_done is ∙ sym (ap is_ok (sym h ∙ e) ∙ ok-checked q))

  pub passes : x ≡ Ok tt → q ≡ Done
  passes h = done-is q (sym (ap is_ok (sym h ∙ e) ∙ ok-checked q))
