-- What the step of a command has to show, from what the command's own step gives: the answer, the table and the run for a list. Assumes nothing.
use Rattle.std.specs.Prelude.{◌≡◌, refl, true, false, List, ℕ, length}
use Rattle.std.proofs.Common.{sym}
use Rattle.commands.specs.declared.Command.{Command}
use Rattle.answers.specs.declared.Answer.{Answer}
use Rattle.semantics.specs.Call.{call, listed_over}
use Rattle.step.specs.Lists.{lists, call-bare}
use Rattle.step.specs.Reads.{only_reads, call-roomless, call-reads}

-- the answer a is that of the call, the table has become u, and the run out has become o
abbrev pub Steps : ℕ → Command → List ℕ → List ℕ → Answer → List ℕ → List ℕ → Type 0
Steps i d t out a u o =
    record {
      value : a ≡ (call (length out) i d t).answer;
      t_after : u ≡ (call (length out) i d t).table;
      out_after : o ≡ listed_over (call (length out) i d t).list out;
    }

-- ---- the command d is known to be e

-- which has no list
pub bare : (i : ℕ) (d e : Command) (t out : List ℕ) {a : Answer} {u : List ℕ} → d ≡ e → lists e ≡ false
    → record { value : a ≡ (call 0 i e t).answer; t_after : u ≡ (call 0 i e t).table } → Steps i d t out a u out
bare i d e t out p f h = rw (p, call-bare (length out) i e t f, call-roomless (length out) i e t f) (record { value = h.value; t_after = h.t_after; out_after = refl })

-- which only reads, and has no list
pub bare-read : (i : ℕ) (d e : Command) (t out : List ℕ) {a : Answer} → d ≡ e → lists e ≡ false → only_reads e ≡ true
    → a ≡ (call 0 i e t).answer → Steps i d t out a t out
bare-read i d e t out p f g h = bare i d e t out p f (record { value = h; t_after = sym (call-reads 0 i e t g) })

-- which only reads
pub read : (i : ℕ) (d e : Command) (t out : List ℕ) {a : Answer} {o : List ℕ} → d ≡ e → only_reads e ≡ true
    → record { value : a ≡ (call (length out) i e t).answer; out_after : o ≡ listed_over (call (length out) i e t).list out } → Steps i d t out a t o
read i d e t out p g h = rw p (record { value = h.value; t_after = sym (call-reads (length out) i e t g); out_after = h.out_after })
