-- Which reason a call with an index has before its step, and what it gives then. Assumes nothing.
use Rattle.std.specs.Prelude.{◌≡◌, refl, Bool, cond, Ok, Err, List, [], ℕ, eqb, length}
use Rattle.std.proofs.Common.{sym, ap, ◌∙◌, ⊎_elim, subst, true≢false, arith}
use Rattle.nodes.specs.Bools.{by_test}
use Rattle.std.proofs.Math.Bool.{true, false, not}
use borrow.Author.Tests.{eq-eqb, ne_eqb}
use Rattle.answers.specs.Answers.{number, refuses, answer_of}
use Rattle.commands.specs.declared.Command.{Command}
use Rattle.semantics.specs.Sizes.{names_per_group, table_words, index_words}
use Rattle.semantics.specs.Test.{same, sound}
use Rattle.semantics.specs.TestLaws.{same-iff}
use Rattle.semantics.specs.Truth.{unless}
use Rattle.semantics.proofs.Agree.{test-regular}
use Rattle.semantics.specs.FirstReason.{first}
use Rattle.semantics.specs.Call.{Call, call, listed_over, why}
use Rattle.inputs.specs.Judge.{is_done, Verdict, checked}
use Rattle.inputs.proofs.Reasons as Reasons
use Rattle.inputs.proofs.Reasons.{passes}
use Rattle.answers.specs.declared.Answer.{Answer}
use Rattle.answers.specs.declared.Value.TheVariants.{Error}
use Rattle.answers.specs.declared.Value.TheVariants as Value
use Rattle.answers.specs.declared.Reason.{Reason}
use Rattle.answers.specs.declared.Reason.TheVariants.{Done, TableLength, Unsound, IndexWrong}
use Rattle.indexes.specs.Index.{index_of_table}
use Rattle.index_rows.specs.Paired.{index-long}
use Rattle.indexes.specs.IndexCalls.{Indexed, left, beside, no_table, no_index, indexed, written, read}

-- ---- the first of some tests, by what they say

abbrev two : Bool → Bool → Reason
two a b = cond a TableLength (cond b Unsound Done)

abbrev three : Bool → Bool → Bool → Reason
three a b d = cond a TableLength (cond b Unsound (cond d IndexWrong Done))

two_refuses : (a b d : Bool) → is_done (two a b) ≡ false → (three a b d ≡ two a b) × (refuses (two a b) ≡ true)
two_refuses true b d h = (refl, refl)
two_refuses false true d h = (refl, refl)
two_refuses false false d h = absurd (true≢false h)

three-refuses : (a b d : Bool) → is_done (three a b d) ≡ false → refuses (three a b d) ≡ true
three-refuses true b d h = refl
three-refuses false true d h = refl
three-refuses false false true h = refl
three-refuses false false false h = absurd (true≢false h)

-- a reason of these stands before any other
three-first : (a b d : Bool) (q : Reason) → is_done (three a b d) ≡ false → cond a TableLength (cond b Unsound (cond d IndexWrong q)) ≡ three a b d
three-first true b d q h = refl
three-first false true d q h = refl
three-first false false true q h = refl
three-first false false false q h = absurd (true≢false h)

-- no test holds where none is given
three_done : (a b d : Bool) → three a b d ≡ Done → (b ≡ false) × (d ≡ false)
three_done true b d e = let z : number TableLength ≡ number Done = ap number e in absurd (omega arith)
three_done false true d e = let z : number Unsound ≡ number Done = ap number e in absurd (omega arith)
three_done false false true e = let z : number IndexWrong ≡ number Done = ap number e in absurd (omega arith)
three_done false false false e = (refl, refl)

two-done : (a b : Bool) → two a b ≡ Done → b ≡ false
two-done a b e = (three_done a b false (go a b e)).0
  where
    go : (a b : Bool) → two a b ≡ Done → three a b false ≡ Done
    go true b e = e
    go false true e = e
    go false false e = refl

-- a test that is not false
holds : (b : Bool) → not b ≡ false → b ≡ true
holds true e = refl
holds false e = absurd (true≢false e)

-- ---- the table

module _ (t : List ℕ) where
  -- what the check of a table answers
  pub table-verdict : cond (sound names_per_group t) (Ok tt) (Err (why t)) ≡ checked (first (no_table t))
  table-verdict =
      ⊎_elim
      (λ (h : sound names_per_group t ≡ true). rw (h, eq-eqb (length t) (table_words names_per_group) (test-regular names_per_group t h).2))
      (λ (h : sound names_per_group t ≡ false).
      ⊎_elim
      (λ (e : eqb (length t) (table_words names_per_group) ≡ true). rw (h, e))
      (λ (e : eqb (length t) (table_words names_per_group) ≡ false). rw (h, e))
      (by_test (eqb (length t) (table_words names_per_group))))
      (by_test (sound names_per_group t))

  -- a table without a reason is sound
  pub table_sound : first (no_table t) ≡ Done → (length t ≡ table_words names_per_group) × (sound names_per_group t ≡ true)
  table_sound e =
      let h : sound names_per_group t ≡ true = holds (sound names_per_group t) (two-done (not (eqb (length t) (table_words names_per_group))) (not (sound names_per_group t)) e) in
      ((test-regular names_per_group t h).2, h)

-- ---- what is to be shown of a call: its answer, and what has become of the table, the index and the run for a list

abbrev pub Gives : Indexed → List ℕ → Answer → List ℕ → List ℕ → List ℕ → Type 0
Gives d out a t x o =
    record {
      value : a ≡ d.given.answer;
      table_after : t ≡ d.given.table;
      index_after : x ≡ d.index;
      out_after : o ≡ listed_over d.given.list out;
    }

-- the answer and the list alone
abbrev pub Tells : Call → List ℕ → Answer → List ℕ → Type 0
Tells d out a o = record { value : a ≡ d.answer; out_after : o ≡ listed_over d.list out }

-- ---- the table and its index

module _ (t x : List ℕ) where
  -- a reason of the table stands before the index's
  pub index-after-table : is_done (first (no_table t)) ≡ false → first (no_table t) ≡ first (no_index t x)
  index-after-table h =
      sym (two_refuses (not (eqb (length t) (table_words names_per_group))) (not (sound names_per_group t)) (not (same x (index_of_table names_per_group t))) h).0

  -- so it refuses the table and its index
  pub refused-after : {v : Verdict} → v ≡ checked (first (no_table t)) → {r : Reason} → v ≡ Err r → Err r ≡ checked (first (no_index t x))
  refused-after e h =
      let f = Reasons.refuses e h in
      sym h ∙ e ∙ ap checked (index-after-table (ap is_done (sym f.0) ∙ f.1))

  pub index-right : first (no_table t) ≡ Done → same x (index_of_table names_per_group t) ≡ true → Done ≡ first (no_index t x)
  index-right e h =
      let q = table_sound t e in
      rw (eq-eqb (length t) (table_words names_per_group) q.0, q.1, h)

  pub index-wrong : first (no_table t) ≡ Done → same x (index_of_table names_per_group t) ≡ false → IndexWrong ≡ first (no_index t x)
  index-wrong e h =
      let q = table_sound t e in
      rw (eq-eqb (length t) (table_words names_per_group) q.0, q.1, h)

  -- a run of another length is no index
  pub index_short : sound names_per_group t ≡ true → (length x ≡ index_words names_per_group → ⊥) → same x (index_of_table names_per_group t) ≡ false
  index_short e n =
      unless (same x (index_of_table names_per_group t)) (λ h. n (index-long (record { ok = e; is = (same-iff x (index_of_table names_per_group t)).0 h })))

  -- runs without a reason are a sound table and its index
  pub index_there : first (no_index t x) ≡ Done
      → record { t_len : length t ≡ table_words names_per_group; t_value : sound names_per_group t ≡ true; index_value : x ≡ index_of_table names_per_group t }
  index_there d =
      let q = three_done (not (eqb (length t) (table_words names_per_group))) (not (sound names_per_group t)) (not (same x (index_of_table names_per_group t))) d in
      let h = holds (sound names_per_group t) q.0 in
      record { t_len = (test-regular names_per_group t h).2; t_value = h; index_value = (same-iff x (index_of_table names_per_group t)).0 (holds (same x (index_of_table names_per_group t)) q.1) }

  -- ---- what a call gives

  module _ (room i : ℕ) (c : Command) where
    indexed-refused : {r : Reason} → r ≡ first (no_index t x) → is_done r ≡ false → indexed room i c t x ≡ left r t x
    unfolding indexed
    indexed-refused {r} e h =
        let k : refuses (first (no_index t x)) ≡ true =
        three-refuses (not (eqb (length t) (table_words names_per_group))) (not (sound names_per_group t)) (not (same x (index_of_table names_per_group t))) (rw e at h) in
        rw (e, k)

    indexed-done : {r : Reason} → r ≡ first (no_index t x) → r ≡ Done → indexed room i c t x ≡ beside (call room i c t)
    unfolding indexed
    indexed-done e d = rw (sym e ∙ d)

  module _ (i : ℕ) (c : Command) (out : List ℕ) {v : Verdict} (e : v ≡ checked (first (no_index t x))) where
    -- refused, and every word stays
    pub gives_refused : {a : Answer} {r : Reason} → v ≡ Err r → a ≡ answer_of Error r → Gives (indexed (length out) i c t x) out a t x out
    gives_refused {a} h q =
        let f = Reasons.refuses e h in
        subst (λ (d : Indexed). Gives d out a t x out) (sym (indexed-refused (length out) i c f.0 f.1)) (record { value = q; table_after = refl; index_after = refl; out_after = refl })

    -- what the call without an index gives, beside the index of the table that is left
    pub gives-done : v ≡ Ok tt → {a : Answer} {u y o : List ℕ} → Gives (beside (call (length out) i c t)) out a u y o → Gives (indexed (length out) i c t x) out a u y o
    gives-done h {a} {u} {y} {o} g = subst (λ (f : Indexed). Gives f out a u y o) (sym (indexed-done (length out) i c refl (passes e h))) g

    -- ---- a command that only reads: its answer and its list

    pub tells-refused : {a : Answer} {r : Reason} → v ≡ Err r → a ≡ answer_of Error r → Tells (indexed (length out) i c t x).given out a out
    tells-refused h q = let g = gives_refused h q in record { value = g.value; out_after = g.out_after }

    pub tells-done : v ≡ Ok tt → {a : Answer} {o : List ℕ} → Tells (call (length out) i c t) out a o → Tells (indexed (length out) i c t x).given out a o
    tells-done h {a} {o} g = subst (λ (f : Indexed). Tells f.given out a o) (sym (indexed-done (length out) i c refl (passes e h))) g

  -- ---- reading by pid

  pub read-refused : (p : ℕ) (out : List ℕ) {v : Verdict} → v ≡ checked (first (no_index t x)) → {a : Answer} {r : Reason} → v ≡ Err r → a ≡ answer_of Error r → Tells (read (length out) p t x) out a out
  unfolding read
  read-refused p out e {a} {r} h q =
      let g = Reasons.refuses e h in
      let f : is_done (first (no_index t x)) ≡ false = ap is_done (sym g.0) ∙ g.1 in
      let long = not (eqb (length t) (table_words names_per_group)) in
      let bad = not (sound names_per_group t) in
      let wrong = not (same x (index_of_table names_per_group t)) in
      rw (three-first long bad wrong _ f, three-refuses long bad wrong f, ← g.0) (record { value = q; out_after = refl })

  -- ---- writing

  module _ {v : Verdict} (e : v ≡ checked (first (no_table t))) where
    pub written-refused : {r : Reason} → v ≡ Err r → written t x ≡ left r t x
    unfolding written
    written-refused {r} h =
        let f = Reasons.refuses e h in
        let q = two_refuses (not (eqb (length t) (table_words names_per_group))) (not (sound names_per_group t)) (not (eqb (length x) (index_words names_per_group))) (ap is_done (sym f.0) ∙ f.1) in
        rw (q.0, f.0, q.1)

    module _ (h : v ≡ Ok tt) where
      pub written-misfit : (length x ≡ index_words names_per_group → ⊥) → written t x ≡ left IndexWrong t x
      unfolding written
      written-misfit n =
          let q = table_sound t (passes e h) in
          rw (eq-eqb (length t) (table_words names_per_group) q.0, q.1, ne_eqb (length x) (index_words names_per_group) n)

      pub written-done : length x ≡ index_words names_per_group → written t x ≡ beside (record { answer = answer_of Value.Ok Done; list = []; table = t })
      unfolding written
      written-done n =
          let q = table_sound t (passes e h) in
          rw (eq-eqb (length t) (table_words names_per_group) q.0, q.1, eq-eqb (length x) (index_words names_per_group) n)
