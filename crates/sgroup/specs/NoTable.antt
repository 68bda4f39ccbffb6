-- What a public call has to show before its step, and where its run is no sound table. Assumes nothing.
use Rattle.std.specs.Prelude.{◌≡◌, refl, Bool, true, false, cond, is_ok, Result, Ok, Err, List, ℕ, length}
use Rattle.std.proofs.Common.{sym, ap, ◌∙◌, subst}
use Rattle.semantics.specs.Sizes.{names_per_group, table_words}
use Rattle.commands.specs.declared.Command.{Command}
use Rattle.answers.specs.Answers.{answer_of}
use Rattle.semantics.specs.Test.{sound}
use Rattle.semantics.specs.Call.{why}
use Rattle.semantics.proofs.Agree.{test-regular}
use Rattle.answers.specs.declared.Value.TheVariants.{Error}
use Rattle.answers.specs.declared.Reason.{Reason}
use Rattle.step.specs.Arms.{Steps}
use Rattle.returns.specs.Shown.{Says, Lists, says-unsound, lists-unsound}

-- ---- a test that is an error where it does not hold

abbrev tested : Bool → Reason → Result Unit Reason
tested b w = cond b (Ok tt) (Err w)

-- the error, and w where there is none
abbrev error_or : Reason → Result Unit Reason → Reason
error_or w (Ok u) = w
error_or w (Err r) = r

tested-ok : (b : Bool) (w : Reason) → is_ok (tested b w) ≡ b
tested-ok true w = refl
tested-ok false w = refl

tested-error : (b : Bool) (w : Reason) → error_or w (tested b w) ≡ w
tested-error true w = refl
tested-error false w = refl

module _ (t : List ℕ) {x : Result Unit Reason} (e : x ≡ tested (sound names_per_group t) (why t)) where
  -- what a step asks for
  pub sound_run : x ≡ Ok tt → record { t_len : length t ≡ table_words names_per_group; t_value : sound names_per_group t ≡ true }
  sound_run h =
      let ok : sound names_per_group t ≡ true = sym (tested-ok (sound names_per_group t) (why t)) ∙ ap is_ok (sym e ∙ h) in
      record { t_len = (test-regular names_per_group t ok).2; t_value = ok }

  module _ {r : Reason} (h : x ≡ Err r) where
    unsound : sound names_per_group t ≡ false
    unsound = sym (tested-ok (sound names_per_group t) (why t)) ∙ ap is_ok (sym e ∙ h)

    is-why : r ≡ why t
    is-why = ap (error_or (why t)) (sym h ∙ e) ∙ tested-error (sound names_per_group t) (why t)

    -- a refusal leaves every word
    pub says-no_table : (room i : ℕ) (c : Command) → Says room i c t (answer_of Error r) t
    says-no_table room i c = subst (λ (q : Reason). Says room i c t (answer_of Error q) t) (sym is-why) (says-unsound room i c t unsound)

    -- a refusal has no list
    pub lists-no_table : (i : ℕ) (c : Command) (out : List ℕ) → Lists i c t out (answer_of Error r) out
    lists-no_table i c out = subst (λ (q : Reason). Lists i c t out (answer_of Error q) out) (sym is-why) (lists-unsound i c t out unsound)

    -- both, for a command of either kind
    pub steps-no_table : (i : ℕ) (c : Command) (out : List ℕ) → Steps i c t out (answer_of Error r) t out
    steps-no_table i c out =
        let s = says-no_table (length out) i c in
        record { value = s.value; t_after = s.t_after; out_after = (lists-no_table i c out).out_after }
