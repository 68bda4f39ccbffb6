-- What a function of a command has to show at a return: on a run that is not sound, and on a sound one from the step of its state.
-- Assumes nothing.
use Rattle.std.specs.Prelude.{◌≡◌, true, false, List, ℕ, length}
use Rattle.std.proofs.Common.{sym, ap, ◌∙◌}
use Rattle.semantics.specs.Sizes.{names_per_group}
use Rattle.commands.specs.declared.Command.{Command}
use Rattle.answers.specs.Answers.{answer_of}
use Rattle.semantics.specs.Steps.{Result, reply}
use Rattle.semantics.specs.Test.{sound}
use Rattle.semantics.specs.Call.{Call, call, written, listed_over, why}
use Rattle.semantics.proofs.Calls.{call-sound, call-unsound}
use Rattle.semantics.specs.WordsOfState.{Laid, words_of}
use Rattle.answers.specs.declared.Answer.{Answer}
use Rattle.answers.specs.declared.Value.{Value}
use Rattle.answers.specs.declared.Value.TheVariants.{Error}
use Rattle.answers.specs.declared.Reason.{Reason}
use Rattle.returns.specs.Judged.{Goes}
use Rattle.place.specs.Sound.{here, base}

-- the answer a and the table u are those of the call
abbrev pub Says : ℕ → ℕ → Command → List ℕ → Answer → List ℕ → Type 0
Says room i c t a u = record { value : a ≡ (call room i c t).answer; t_after : u ≡ (call room i c t).table }

-- the answer a is that of the call, and the run out has become o
abbrev pub Lists : ℕ → Command → List ℕ → List ℕ → Answer → List ℕ → Type 0
Lists i c t out a o = record { value : a ≡ (call (length out) i c t).answer; out_after : o ≡ listed_over (call (length out) i c t).list out }

-- ---- a run that is not sound

pub says-unsound : (room i : ℕ) (c : Command) (t : List ℕ) → sound names_per_group t ≡ false → Says room i c t (answer_of Error (why t)) t
says-unsound room i c t h =
    let e = call-unsound room i c t h in
    record { value = ap (λ (x : Call). x.answer) (sym e); t_after = ap (λ (x : Call). x.table) (sym e) }

pub lists-unsound : (i : ℕ) (c : Command) (t out : List ℕ) → sound names_per_group t ≡ false → Lists i c t out (answer_of Error (why t)) out
lists-unsound i c t out h =
    let e = call-unsound (length out) i c t h in
    record { value = ap (λ (x : Call). x.answer) (sym e); out_after = ap (λ (x : Call). listed_over x.list out) (sym e) }

-- ---- a sound table

module _ (t : List ℕ) (ok : sound names_per_group t ≡ true) where
  module _ {room i : ℕ} {c : Command} {w : Result} (g : Goes room i c (here t) w) where
    called : call room i c t ≡ written w
    called = call-sound room i c t ok ∙ ap written g.is

    pub answers : w.answer ≡ (call room i c t).answer
    answers = ap (λ (x : Call). x.answer) (sym called)

    pub says : (u : List ℕ) → Laid names_per_group w.next u → Says room i c t w.answer u
    says u l = record { value = answers; t_after = words_of l ∙ ap (λ (x : Call). x.table) (sym called) }

  -- where the step changes nothing
  pub says-kept : {room i : ℕ} {c : Command} {v : Value} {r : Reason} → Goes room i c (here t) (reply v r (here t)) → Says room i c t (answer_of v r) t
  says-kept g = says g t (base t ok)

  -- where it answers a list
  pub lists : {i : ℕ} {c : Command} {w : Result} (out : List ℕ) → Goes (length out) i c (here t) w → Lists i c t out w.answer (listed_over w.list out)
  lists out g = record { value = answers g; out_after = ap (λ (x : Call). listed_over x.list out) (sym (called g)) }
