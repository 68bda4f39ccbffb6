-- The library's answers are the published ones: a step of a regular state, and a call on a sound table, give the state, the value, the list and
-- the reason that 01's refusals and 000's transitions give, in one equation. Assumes nothing.
use Rattle.std.specs.Prelude.{◌≡◌, refl, Bool, false, List, ℕ}
use Rattle.std.proofs.Math.Path.{sym, ap}
use Rattle.std.proofs.Common.{◌∙◌}
use Rattle.std.proofs.Math.Bool.{true, cond}
use Rattle.semantics.specs.Sizes.{names_per_group}
use Rattle.semantics.specs.State.{State}
use Rattle.commands.specs.declared.Command.{Command}
use Rattle.answers.specs.Answers.{refuses, answer_of}
use Rattle.semantics.specs.Steps.{Result, step}
use Rattle.semantics.specs.Table.{state_of}
use Rattle.semantics.specs.Soundness.{Sound}
use Rattle.semantics.specs.Test.{sound}
use Rattle.semantics.specs.FirstReason.{first}
use Rattle.semantics.specs.Call.{Call, call}
use Rattle.semantics.specs.Regular.{Regular}
use Rattle.semantics.specs.Fits.{Fits}
use Rattle.semantics.proofs.StepsKeep.{keeps}
use Rattle.semantics.proofs.Agree.{test-regular, sound-iff}
use Rattle.semantics.proofs.Calls.{call-sound, calls-keep-sound}
use Rattle.answers.specs.declared.Answer.{Answer}
use Rattle.answers.specs.declared.Value.{Value}
use Rattle.answers.specs.declared.Reason.{Reason}
use Rattle.published.specs.Published.{Published, Step, gives, transition}
use Rattle.published.proofs.SeenState.{published, said, seen_table, seen-sound, layout-seen}
use Rattle.published.specs.Refusals.{tests, ruled, refusal, Answered, answer}
use Rattle.published.proofs.Follows.{Follows}
use Rattle.published.proofs.Rules.{agree}
use Rattle.published.proofs.Reasons.{Because, because}
use Rattle.published.proofs.Determined.{table-determined}

-- ---- states

-- what is published of a result
abbrev pub seen_result : Result → Answered
seen_result r = record { state = published r.next; answer = r.answer; list = r.list }

-- the answer of a published step, with its reason
abbrev answered : Reason → Step → Answered
answered why q = record { state = q.state; answer = answer_of (said q.value).0 why; list = (said q.value).1 }

followed : (r : Result) (why : Reason) (q : Step) → r.answer.reason ≡ why → Follows r q → seen_result r ≡ answered why q
followed r why q e f = λ k. record { state = f.state k; answer = answer_of (sym f.said_is k).0 (e k); list = (sym f.said_is k).1 }

pub exact : (room i : ℕ) (c : Command) (st : State) → Regular names_per_group st → Fits c → seen_result (step room i c st) ≡ answer room c i (published st)
unfolding answer
exact room i c st w fits = go (ruled why) refl
  where
    why : Reason
    why = first (tests room c i (published st))

    it : Because (step room i c st) why st
    it = because room i c st w fits

    go : (x : Bool) → ruled why ≡ x → seen_result (step room i c st)
        ≡ answered why (cond x (transition c i (published st)) (gives (refusal why) (published st)))
    go true e = followed (step room i c st) why (transition c i (published st)) it.reason_is (agree room i c st w (ap ruled it.reason_is ∙ e))
    go false e = followed (step room i c st) why (gives (refusal why) (published st)) it.reason_is (it.refused e)

-- ---- tables

-- what is published of a call
abbrev pub seen_call : Call → Answered
seen_call r = record { state = seen_table r.table; answer = r.answer; list = r.list }

module _ (room i : ℕ) (c : Command) (t : List ℕ) (h : Sound names_per_group t) (fits : Fits c) where
  pub exact-call : seen_call (call room i c t) ≡ answer room c i (seen_table t)
  exact-call =
      let passes : sound names_per_group t ≡ true = (sound-iff names_per_group t).1 h in
      let st : State = state_of names_per_group t in
      let w : Regular names_per_group st = (test-regular names_per_group t passes).0 in
      ap seen_call (call-sound room i c t passes)
      ∙ ap (λ (X : Published). record { state = X; answer = (step room i c st).answer; list = (step room i c st).list })
      (layout-seen (step room i c st).next (keeps room i c st w fits))
      ∙ exact room i c st w fits ∙ ap (answer room c i) (sym (seen-sound t h))

  -- no other sound table has the published state that the answer gives
  pub only-table : (u : List ℕ) → Sound names_per_group u → seen_table u ≡ (answer room c i (seen_table t)).state → u ≡ (call room i c t).table
  only-table u v e =
      table-determined u (call room i c t).table v (calls-keep-sound room i c t fits h) (e ∙ sym (ap (λ (a : Answered). a.state) exact-call))

  -- a call that is not refused does what 000's rule says
  pub accepted_call : (v : Value) (r : Reason) → (call room i c t).answer ≡ answer_of v r → refuses r ≡ false
      → ((said (transition c i (seen_table t)).value).0 ≡ v) × (seen_table (call room i c t).table ≡ (transition c i (seen_table t)).state)
  unfolding answer
  accepted_call v r a f =
      let X : Published = seen_table t in
      let why : Reason = first (tests room c i X) in
      let e : why ≡ r = sym (ap (λ (x : Answered). x.answer.reason) exact-call) ∙ ap (λ (x : Answer). x.reason) a in
      let ruled-so : ruled why ≡ true = ap ruled e ∙ rw f in
      let q : cond (ruled why) (transition c i X) (gives (refusal why) X) ≡ transition c i X = rw ruled-so in (
        sym (ap (λ (x : Step). (said x.value).0) q) ∙ sym (ap (λ (x : Answered). x.answer.value) exact-call) ∙ ap (λ (x : Answer). x.value) a,
        ap (λ (x : Answered). x.state) exact-call ∙ ap (λ (x : Step). x.state) q,
      )
