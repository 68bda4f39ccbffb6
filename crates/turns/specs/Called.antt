-- What a call of the caller i leaves: its answer r, the table u and the run v, whose front holds as many words as the answer says. Assumes nothing.
use Rattle.std.specs.Prelude.{◌≡◌, refl, List, ℕ, ◌≤◌, length, take, drop}
use Rattle.std.proofs.Common.{sym, ap, ◌∙◌, arith, length-append, take_at}
use Rattle.commands.specs.declared.Command.{Command}
use Rattle.semantics.specs.Call.{call, listed_over}
use Rattle.answers.specs.declared.Answer.{Answer}
use Rattle.step.specs.Lists.{count_of, call-count}
use Rattle.print.specs.Printed.{answer_line}
use Rattle.turns.specs.Turns.{list_room, printed_call}

-- the number of words that the answer says is that of the list
counted : (i : ℕ) (c : Command) (t w : List ℕ) (r : Answer) (n : ℕ) → r ≡ (call (length w) i c t).answer → n ≡ count_of r.value → n ≡ length (call (length w) i c t).list
counted i c t w r n e m = m ∙ ap (λ (a : Answer). count_of a.value) e ∙ call-count (length w) i c t

-- so many words stand in the run
pub list-within : (i : ℕ) (c : Command) (t w : List ℕ) (r : Answer) (v : List ℕ) (n : ℕ)
    → r ≡ (call (length w) i c t).answer → v ≡ listed_over (call (length w) i c t).list w → n ≡ count_of r.value → n ≤ length v
list-within i c t w r v n e f m = omega (arith, counted i c t w r n e m, simp length-append at (ap length f))

-- the line of the answer with those words is that of the call, and so is the table
pub call_printed : (i : ℕ) (c : Command) (t w : List ℕ) (r : Answer) (u v : List ℕ) (n : ℕ)
    → r ≡ (call (length w) i c t).answer → u ≡ (call (length w) i c t).table → v ≡ listed_over (call (length w) i c t).list w → n ≡ count_of r.value → length w ≡ list_room
    → (answer_line (take n v) r ≡ (printed_call (call list_room i c t)).text) × (u ≡ (call list_room i c t).table)
call_printed i c t w r u v n e g f m h =
    let k = call (length w) i c t in
    let l : take n v ≡ k.list = ap (take n) f ∙ take_at k.list (drop (length k.list) w) n (sym (counted i c t w r n e m)) in
    rw (← h) (rw (l, e) refl, g)
