-- `namespace_test::all_zero` meets its contract: the words passed are zero where the number that joins them is.
-- Assumes nothing.
use native.Mathlib.Omega.{arith}
use mathlib.Core.Path.{◌≡◌, sym, ◌∙◌}
use mathlib.Core.List.{List}
use mathlib.Core.Logic.{⊎_elim}
use mathlib.Core.Bool.{◌&&◌, and_assoc, and-true, and-false}
use Prim.Native.Nat.{ℕ, suc, ◌+◌, ◌≤◌, ◌<◌}
use native.Mathlib.Numerals.{add-one}
use lib.ListN.{length, get_or, drop, drop_of_length-le}
use lib.Seq.{drop-cons}
use lib.Dec.{eqb}
use lib.Bits.{bit_or, or_add_and, and_le_l, and_le_r}
use borrow.Author.Tests.{ne_eqb}
use Rattle.nodes.specs.Bools.{by_eq}
use Rattle.entries.specs.NamespaceSound.{all_zero}
use Rattle.namespace_test.proofs.all_zero.Goals as goal

or-zero : (a b : ℕ) → eqb (bit_or a b) 0 ≡ eqb a 0 && eqb b 0
or-zero a b =
    ⊎_elim
    (λ (p : a ≡ 0).
    ⊎_elim
    (λ (q : b ≡ 0). rw (p, q))
    (λ (q : b ≡ 0 → ⊥). rw (ne_eqb b 0, ne_eqb (bit_or a b) 0 (λ r. q (omega (arith, or_add_and a b, and_le_l a b)))) (sym (and-false (eqb a 0))))
    (by_eq b 0))
    (λ (p : a ≡ 0 → ⊥). rw (ne_eqb a 0, ne_eqb (bit_or a b) 0 (λ r. p (omega (arith, or_add_and a b, and_le_r a b)))))
    (by_eq a 0)

module _ (any i : ℕ) (ws : List ℕ) where
  turn : i < length ws → eqb (bit_or any (get_or ws i 0)) 0 && all_zero (drop (i + 1) ws) ≡ eqb any 0 && all_zero (drop i ws)
  unfolding all_zero
  turn h = rw (or-zero any (get_or ws i 0), add-one, drop-cons ws i 0) (and_assoc (eqb any 0) (eqb (get_or ws i 0) 0) (all_zero (drop (suc i) ws)))

  ends : length ws ≤ i → eqb any 0 && all_zero (drop i ws) ≡ eqb any 0
  unfolding all_zero
  ends h = rw (drop_of_length-le ws {i = i}) (and-true (eqb any 0))

pub loop-word-preserved : goal.loop-word-preserved
loop-word-preserved c =
    let v = c.loop-word in
    turn v.any v.word-index c.args.words.now (omega arith) ∙ v.invariant

pub returns : goal.returns
returns c =
    let v = c.loop-word in
    sym (ends v.any v.word-index c.args.words.now (omega arith)) ∙ v.invariant
