-- `indexed::misfit` meets its contract: the tests that stand before, in their order. Assumes nothing.
use mathlib.Core.Path.{◌≡◌, sym, ap, ◌∙◌}
use mathlib.Core.Bool.{true, not, ◌||◌, cond}
use mathlib.Core.List.{List}
use Prim.Native.Nat.{ℕ}
use native.Mathlib.Omega.{arith}
use lib.Dec.{eqb, ltb}
use lib.ListN.{length}
use borrow.Author.Tests.{eq-eqb, ne_eqb, lt-ltb, le-ltb}
use Rattle.nodes.specs.Sets.{node_limit}
use Rattle.answers.specs.Answers.{answer_of}
use Rattle.semantics.specs.Sizes.{names_per_group, table_words, index_words}
use Rattle.indexes.specs.IndexCalls.{Indexed, opened}
use Rattle.answers.specs.declared.Answer.{Answer}
use Rattle.answers.specs.declared.Value.TheVariants.{Error}
use Rattle.answers.specs.declared.Reason.{Reason}
use Rattle.answers.specs.declared.Reason.TheVariants.{TableLength, RosterSize, IndexWrong}
use Rattle.indexed.specs.Opened.{opened-misfit}
use Rattle.indexed.proofs.misfit.Goals as goal
use Rattle.indexed.proofs.misfit.Goals.{then-n-lt1-via-then-n-lt1, then-n-lt1-via-else-n-lt1+then-n-gt-NODE_LIMIT}

-- what the tests say is the reason
says : (N : ℕ) (t : List ℕ) {a : Answer} {r : Reason} → a ≡ answer_of Error r
    → r ≡ cond (not (eqb (length t) (table_words names_per_group))) TableLength (cond (eqb N 0 || ltb node_limit N) RosterSize IndexWrong)
    → (hidden : ℕ) (x : List ℕ) → (length x ≡ index_words names_per_group → ⊥) → a ≡ (opened N hidden t x).given.answer
says N t e w = λ hidden x n. e ∙ ap (answer_of Error) w ∙ sym (ap (λ (d : Indexed). d.given.answer) (opened-misfit N hidden t x n))

pub returns-then-table-ne-TABLE_WORDS : goal.returns-then-table-ne-TABLE_WORDS
returns-then-table-ne-TABLE_WORDS c =
    let a = c.args in
    says a.n a.table.now c.refused.ensures (rw (ne_eqb (length a.table.now) (table_words names_per_group) c.if-table-ne-TABLE_WORDS.true))

pub returns-then-n-lt1 : goal.returns-then-n-lt1
returns-then-n-lt1 c =
    let a = c.args in
    let outside : (eqb a.n 0 || ltb node_limit a.n) ≡ true = elim c.then-n-lt1.branch [
      | then-n-lt1-via-then-n-lt1 w ↦ rw (eq-eqb a.n 0 (omega (arith, w.if-n-lt1.true)))
      | then-n-lt1-via-else-n-lt1+then-n-gt-NODE_LIMIT w ↦ rw (ne_eqb a.n 0 (λ e. omega (arith, e, w.if-n-lt1.false)), lt-ltb node_limit a.n w.if-n-gt-NODE_LIMIT.true)
    ] in
    says a.n a.table.now c.refused-then-n-lt1.ensures (rw (eq-eqb (length a.table.now) (table_words names_per_group) c.if-table-ne-TABLE_WORDS.false, outside))

pub returns : goal.returns
returns c =
    let a = c.args in
    says a.n a.table.now c.refused-2.ensures
    (rw (eq-eqb (length a.table.now) (table_words names_per_group) c.if-table-ne-TABLE_WORDS.false, ne_eqb a.n 0 (λ e. omega (arith, e, c.if-n-lt1.false)), le-ltb node_limit a.n c.if-n-gt-NODE_LIMIT.false))
