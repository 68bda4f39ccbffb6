-- The index of a sound table and that of the table after a call: its rows are updated where the command is done, and else they stay. Assumes nothing.
use Rattle.std.specs.Prelude.{◌≡◌, Bool, true, cond, List, ℕ, ◌*◌, ◌≤◌, eqb, length, Option}
use Rattle.std.proofs.Math.Path.{sym, ap}
use Rattle.std.proofs.Common.{◌∙◌, arith}
use Rattle.std.proofs.Math.Bool.{false}
use Rattle.answers.specs.Answers.{number}
use Rattle.answers.specs.declared.Answer.{Answer}
use Rattle.commands.specs.declared.Command.{Command}
use Rattle.semantics.specs.Sizes.{names_per_group, row_words, index_words}
use Rattle.semantics.specs.State.{State}
use Rattle.semantics.specs.Table.{state_of}
use Rattle.semantics.specs.Steps.{step}
use Rattle.semantics.specs.Call.{Call, call}
use Rattle.semantics.proofs.Calls.{call-sound}
use Rattle.semantics.specs.Fits.{Fits}
use Rattle.inputs.specs.Judge.{is_done}
use Rattle.semantics.specs.Regular.{Regular}
use Rattle.semantics.proofs.RoundTrip.{round_trip}
use Rattle.semantics.proofs.StepsKeep.{keeps}
use Rattle.semantics.proofs.Agree.{test-regular}
use Rattle.indexes.specs.Index.{Row, walk, sorted, laid, index_of, index_of_table}
use Rattle.indexes.specs.Updates.{updated, update_of}
use Rattle.indexes.specs.declared.Update.{Update}
use Rattle.indexes.specs.Sorting.{length-sorted}
use Rattle.indexes.proofs.StepRows.{step-rows, step_count}
use Rattle.index_rows.specs.Filled.{Fills}
use Rattle.index_rows.specs.Paired.{Paired, all_rows, index-long, index-fills}

module _ {t x : List ℕ} (h : Paired t x) where
  abbrev st : State
  st = state_of names_per_group t

  regular : Regular names_per_group st
  regular = (test-regular names_per_group t h.ok).0

  module _ (room i : ℕ) (c : Command) (fits : Fits c) where
    -- the state after the call
    abbrev next : State
    next = (step room i c st).next

    -- its index is that of the table after the call
    after : index_of_table names_per_group (call room i c t).table ≡ laid (index_words names_per_group) (sorted (walk next.groups))
    unfolding index_of
    after =
        ap (λ (d : Call). index_of_table names_per_group d.table) (call-sound room i c t h.ok)
        ∙ ap (index_of names_per_group) (round_trip names_per_group next (keeps room i c st regular fits))

    -- the reason of the call is that of the step
    reason : number (call room i c t).answer.reason ≡ number (step room i c st).answer.reason
    reason = ap (λ (d : Call). number d.answer.reason) (call-sound room i c t h.ok)

    module _ {a : Answer} (gives : a ≡ (call room i c t).answer) where
      rows : {b : Bool} → is_done a.reason ≡ b → sorted (walk next.groups) ≡ cond b (updated (update_of c st.groups) (sorted (all_rows t))) (sorted (all_rows t))
      rows {b} e =
          step-rows room i c st regular
          ∙ ap (λ (m : ℕ). cond (eqb m 0) (updated (update_of c st.groups) (sorted (all_rows t))) (sorted (all_rows t))) (sym (ap (λ (x : Answer). number x.reason) gives ∙ reason))
          ∙ ap (λ (d : Bool). cond d (updated (update_of c st.groups) (sorted (all_rows t))) (sorted (all_rows t))) e

      -- after a command that is done the updated rows are the index of the table
      pub index-done : is_done a.reason ≡ true → {count : ℕ} {u : Option Update} → count ≡ length (all_rows t) → u ≡ update_of c st.groups → {y : List ℕ}
          → ((xs : List Row) → Fills count xs x → row_words * length (updated u xs) ≤ length x → y ≡ laid (length x) (updated u xs))
          → y ≡ index_of_table names_per_group (call room i c t).table
      index-done z {count} {u} many is {y} l =
          let e : sorted (walk next.groups) ≡ updated u (sorted (all_rows t)) = rows z ∙ ap (λ (v : Option Update). updated v (sorted (all_rows t))) (sym is) in
          let roomy : row_words * length (updated u (sorted (all_rows t))) ≤ length x =
          omega (arith, index-long h, ap length e, length-sorted (walk next.groups), step_count room i c st regular fits) in
          l (sorted (all_rows t)) (index-fills h count many) roomy ∙ ap (λ (k : ℕ). laid k (updated u (sorted (all_rows t)))) (index-long h) ∙ ap (laid (index_words names_per_group)) (sym e) ∙ sym after

      -- after any other the rows that were there
      pub index_kept : is_done a.reason ≡ false → x ≡ index_of_table names_per_group (call room i c t).table
      unfolding index_of
      index_kept z = h.is ∙ ap (laid (index_words names_per_group)) (sym (rows z)) ∙ sym after
