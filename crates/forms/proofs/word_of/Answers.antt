-- `forms::word_of` meets its contract: where a comparison holds, s is that word; past the last, s is none of them.
-- Assumes nothing.
use mathlib.Core.Path.{◌≡◌}
use mathlib.Core.Bool.{false}
use mathlib.Core.List.{List}
use Prim.Native.Nat.{ℕ}
use Rattle.forms.specs.Forms.{forms, number_from, number_of}
use Rattle.semantics.specs.Test.{same}
use Rattle.forms.specs.Words.{spelt, named, unnamed}
use Rattle.forms.specs.declared.Word.TheVariants.{RegisterName, ReRegisterName, UnregisterName, RegisteredNames, WhereisName, Send, NewSGroup, AddNodes, RemoveNodes, DeleteSGroup, OwnNodes, OwnSGroups}
use Rattle.forms.proofs.word_of.Goals as goal

-- bytes that are none of the words have no number
wordless : (s : List ℕ) (n : ℕ) → same s (spelt RegisterName) ≡ false → same s (spelt ReRegisterName) ≡ false → same s (spelt UnregisterName) ≡ false → same s (spelt RegisteredNames) ≡ false → same s (spelt WhereisName) ≡ false → same s (spelt Send) ≡ false → same s (spelt NewSGroup) ≡ false → same s (spelt AddNodes) ≡ false → same s (spelt RemoveNodes) ≡ false → same s (spelt DeleteSGroup) ≡ false → same s (spelt OwnNodes) ≡ false → same s (spelt OwnSGroups) ≡ false → number_of s n ≡ 0
unfolding number_of number_from forms
wordless s n e1 e2 e3 e4 e5 e6 e7 e8 e9 e10 e11 e12 = simp (e1, e2, e3, e4, e5, e6, e7, e8, e9, e10, e11, e12)

pub returns-then-eq : goal.returns-then-eq
returns-then-eq c = λ n. named _ _ _ _ n c.as_slice.ensures c.eq.ensures c.if-eq.true

pub returns-then-eq-2 : goal.returns-then-eq-2
returns-then-eq-2 c = λ n. named _ _ _ _ n c.as_slice-else-eq.ensures c.eq-else-eq.ensures c.if-eq-2.true

pub returns-then-eq-3 : goal.returns-then-eq-3
returns-then-eq-3 c = λ n. named _ _ _ _ n c.as_slice-else-eq-2.ensures c.eq-else-eq-2.ensures c.if-eq-3.true

pub returns-then-eq-4 : goal.returns-then-eq-4
returns-then-eq-4 c = λ n. named _ _ _ _ n c.as_slice-else-eq-3.ensures c.eq-else-eq-3.ensures c.if-eq-4.true

pub returns-then-eq-5 : goal.returns-then-eq-5
returns-then-eq-5 c = λ n. named _ _ _ _ n c.as_slice-else-eq-4.ensures c.eq-else-eq-4.ensures c.if-eq-5.true

pub returns-then-eq-6 : goal.returns-then-eq-6
returns-then-eq-6 c = λ n. named _ _ _ _ n c.as_slice-else-eq-5.ensures c.eq-else-eq-5.ensures c.if-eq-6.true

pub returns-then-eq-7 : goal.returns-then-eq-7
returns-then-eq-7 c = λ n. named _ _ _ _ n c.as_slice-else-eq-6.ensures c.eq-else-eq-6.ensures c.if-eq-7.true

pub returns-then-eq-8 : goal.returns-then-eq-8
returns-then-eq-8 c = λ n. named _ _ _ _ n c.as_slice-else-eq-7.ensures c.eq-else-eq-7.ensures c.if-eq-8.true

pub returns-then-eq-9 : goal.returns-then-eq-9
returns-then-eq-9 c = λ n. named _ _ _ _ n c.as_slice-else-eq-8.ensures c.eq-else-eq-8.ensures c.if-eq-9.true

pub returns-then-eq-10 : goal.returns-then-eq-10
returns-then-eq-10 c = λ n. named _ _ _ _ n c.as_slice-else-eq-9.ensures c.eq-else-eq-9.ensures c.if-eq-10.true

pub returns-then-eq-11 : goal.returns-then-eq-11
returns-then-eq-11 c = λ n. named _ _ _ _ n c.as_slice-else-eq-10.ensures c.eq-else-eq-10.ensures c.if-eq-11.true

pub returns-then-eq-12 : goal.returns-then-eq-12
returns-then-eq-12 c = λ n. named _ _ _ _ n c.as_slice-else-eq-11.ensures c.eq-else-eq-11.ensures c.if-eq-12.true

pub returns-else-eq-12 : goal.returns-else-eq-12
returns-else-eq-12 c =
    λ n.
    wordless _ n
    (unnamed _ _ _ _ c.as_slice.ensures c.eq.ensures c.if-eq.false)
    (unnamed _ _ _ _ c.as_slice-else-eq.ensures c.eq-else-eq.ensures c.if-eq-2.false)
    (unnamed _ _ _ _ c.as_slice-else-eq-2.ensures c.eq-else-eq-2.ensures c.if-eq-3.false)
    (unnamed _ _ _ _ c.as_slice-else-eq-3.ensures c.eq-else-eq-3.ensures c.if-eq-4.false)
    (unnamed _ _ _ _ c.as_slice-else-eq-4.ensures c.eq-else-eq-4.ensures c.if-eq-5.false)
    (unnamed _ _ _ _ c.as_slice-else-eq-5.ensures c.eq-else-eq-5.ensures c.if-eq-6.false)
    (unnamed _ _ _ _ c.as_slice-else-eq-6.ensures c.eq-else-eq-6.ensures c.if-eq-7.false)
    (unnamed _ _ _ _ c.as_slice-else-eq-7.ensures c.eq-else-eq-7.ensures c.if-eq-8.false)
    (unnamed _ _ _ _ c.as_slice-else-eq-8.ensures c.eq-else-eq-8.ensures c.if-eq-9.false)
    (unnamed _ _ _ _ c.as_slice-else-eq-9.ensures c.eq-else-eq-9.ensures c.if-eq-10.false)
    (unnamed _ _ _ _ c.as_slice-else-eq-10.ensures c.eq-else-eq-10.ensures c.if-eq-11.false)
    (unnamed _ _ _ _ c.as_slice-else-eq-11.ensures c.eq-else-eq-11.ensures c.if-eq-12.false)
