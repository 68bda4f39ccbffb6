-- A name that is not held, with a pid that is not, comes in by re_register_name as by register_name. Assumes nothing.
use Rattle.std.specs.Prelude.{◌≡◌, Bool, false, cond, List, ℕ}
use Rattle.std.proofs.Common.{sym, ap, ◌∙◌, subst}
use Rattle.entries.specs.Entries.{Entry, insert, lookup, holds_pid}
use Rattle.entries.specs.EntryLaws.{remove_absent}
use Rattle.answers.specs.declared.Answer.{Answer}
use Rattle.answers.specs.declared.Value.TheVariants.{True, False}
use Rattle.answers.specs.declared.Reason.TheVariants.{NamespaceFull}
use Rattle.semantics.specs.State.{State}
use Rattle.semantics.specs.Ranges.{held}
use Rattle.semantics.specs.Steps.{Outcome, done, say, hold, full}
use Rattle.semantics.specs.NamesKept.{not-held}
use Rattle.place.specs.Seats.{Seat}
use Rattle.names.specs.NamesAt.{names_at}
use Rattle.names.specs.NamesHere.{names_of}
use Rattle.returns.specs.Judged.{register_in, re_register_in}
use Rattle.returns.specs.Settled.{Settles}

module _ (st : State) {s k : ℕ} (w : Seat s k st.groups) (n p : ℕ) (absent : held (lookup n (names_at k st)) ≡ false) (fresh : holds_pid p (names_at k st) ≡ false) where
  -- a test of the names at the place is one of the s_group's names
  tested : {b : Bool} (f : List Entry → Bool) → f (names_at k st) ≡ b → f w.group.names ≡ b
  tested f e = ap f (sym (names_of st w)) ∙ e

  same_outcome : register_in n p w.group ≡ re_register_in n p w.group
  same_outcome =
      rw (tested (λ ns. held (lookup n ns)) absent, tested (holds_pid p) fresh)
      (ap (λ (ns : List Entry). cond (full w.group.names) (say False NamespaceFull) (done (hold w.group.members (insert (record { name = n; pid = p }) ns)) True))
      (sym (remove_absent n w.group.names (not-held _ (tested (λ ns. held (lookup n ns)) absent)))))

  pub anew : {a : Answer} {u : List ℕ} → Settles s (register_in n p w.group) st a u → Settles s (re_register_in n p w.group) st a u
  anew {a} {u} = subst (λ (o : Outcome). Settles s o st a u) same_outcome
