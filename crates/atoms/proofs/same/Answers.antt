-- `atoms::same` meets its contract: what is compared covers all bytes. Assumes nothing.
use mathlib.Core.Path.{◌≡◌, refl, sym, ap, ◌∙◌}
use mathlib.Core.Logic.{⊎_elim}
use mathlib.Core.Bool.{true, false}
use mathlib.Core.List.{List}
use Prim.Native.Nat.{ℕ, ◌+◌, ◌*◌, ◌-◌, ◌≤◌, ◌<◌}
use native.Mathlib.Omega.{arith}
use borrow.Author.Tests.{eqb-true, eq-eqb}
use lib.Bits.{bit_or, bit_xor, xor_self}
use lib.Dec.{eqb}
use lib.ListN.{length, get_or}
use lib.Seq.{ext_get_or}
use Rattle.nodes.specs.Bools.{by_lt}
use Rattle.tokens.specs.Reserved.{same}
use Rattle.tokens.specs.Words.{same_by}
use Rattle.atoms.specs.Marks.{eight, short_word}
use Rattle.atoms.specs.Parts.{Bytes, no_difference, none_in_both, eight-parts, short-parts}
use Rattle.atoms.proofs.same.Invariants.{Alike}
use Rattle.atoms.proofs.same.Goals as goal

-- ---- atoms that differ

module _ (a b : List ℕ) where
  -- in something
  differ : (a ≡ b → ⊥) → false ≡ same a b
  differ h = sym (same_by a b false (λ e. absurd (let z : ◌≡◌ {A = ℕ} 0 1 = cc in omega arith)) (λ e. absurd (h e)))

  -- the difference at a place
  abbrev At : ℕ → ℕ → Type 0
  At i d = d ≡ bit_xor (eight a i) (eight b i)

  none : (i d : ℕ) → At i d → a ≡ b → d ≡ 0
  none i d e q = e ∙ rw q (xor_self (eight b i))

  differ-at : (i d : ℕ) → At i d → (d ≡ 0 → ⊥) → false ≡ same a b
  differ-at i d e h = differ (λ q. h (none i d e q))

  module _ (i j k x y z : ℕ) (p : At i x) (q : At j y) (r : At k z) where
    -- at one of three places
    differ-somewhere : (bit_or (bit_or x y) z ≡ 0 → ⊥) → false ≡ same a b
    differ-somewhere h = differ (λ e. h (rw (none i x p e, none j y q e, none k z r e)))

    -- at none
    three : bit_or (bit_or x y) z ≡ 0 → (eight a i ≡ eight b i) × (eight a j ≡ eight b j) × (eight a k ≡ eight b k)
    three h =
        let u = none_in_both (bit_or x y) z h in
        let v = none_in_both x y u.0 in
        (no_difference _ _ (sym p ∙ v.0), no_difference _ _ (sym q ∙ v.1), no_difference _ _ (sym r ∙ u.1))

-- ---- atoms of one length

module _ (a b : List ℕ) (in-a : Bytes a) (in_b : Bytes b) where
  more-alike : (i : ℕ) → Alike a b i → eight a i ≡ eight b i → Alike a b (i + 8)
  more-alike i alike e k h = ⊎_elim (λ (t : k < i). alike k t) (λ (t : i ≤ k). eight-parts a b in-a in_b i e k t h) (by_lt k i)

  module _ (n : length a ≡ length b) where
    -- short ones: one word of each decides
    decided : length a < 8 → eqb (short_word a) (short_word b) ≡ same a b
    decided l =
        sym
        (same_by a b (eqb (short_word a) (short_word b))
        (λ t. ext_get_or 0 a b n (λ k h. short-parts a b in-a in_b n (eqb-true (short_word a) (short_word b) t) l k h))
        (λ e. eq-eqb (short_word a) (short_word b) (ap short_word e)))

    -- where the bytes in front of i are equal, the last eight and the eight at j between, all are
    all_alike : (i j : ℕ) → Alike a b i → j ≤ i → length a ≤ j + 16 → eight a j ≡ eight b j → eight a (length a - 8) ≡ eight b (length a - 8) → true ≡ same a b
    all_alike i j alike l m e f = sym (same_by a b true (λ t. ext_get_or 0 a b n bytes) (λ t. refl))
      where
        bytes : (k : ℕ) → k < length a → get_or a k 0 ≡ get_or b k 0
        bytes k h =
            ⊎_elim
            (λ (u : k < i). alike k u)
            (λ (u : i ≤ k).
            ⊎_elim (λ (v : k < j + 8). eight-parts a b in-a in_b j e k (omega arith) v) (λ (v : j + 8 ≤ k). eight-parts a b in-a in_b (length a - 8) f k (omega arith) (omega arith))
            (by_lt k (j + 8)))
            (by_lt k i)

-- ---- the code

pub returns-then-n-b : goal.returns-then-n-b
returns-then-n-b c =
    let s = c.args in
    differ s.a.now s.b.now (λ e. c.if-n-b.true (ap length e))

pub returns-then-n-lt8 : goal.returns-then-n-lt8
returns-then-n-lt8 c =
    let s = c.args in
    rw (c.short_word.ensures, c.short_word-then-n-lt8.ensures)
    (decided s.a.now s.b.now (λ j. omega (arith, c.type_inv.a j)) (λ j. omega (arith, c.type_inv.b j)) c.if-n-b.false c.if-n-lt8.true)

pub returns-then-difference-ne0 : goal.returns-then-difference-ne0
returns-then-difference-ne0 c =
    let s = c.args in
    differ-somewhere s.a.now s.b.now _ _ _ _ _ _ c.difference.ensures c.difference-2.ensures c.difference-3.ensures c.if-difference-ne0.true

pub returns-then-n-le24 : goal.returns-then-n-le24
returns-then-n-le24 c =
    let s = c.args in
    let e = three s.a.now s.b.now _ _ _ _ _ _ c.difference.ensures c.difference-2.ensures c.difference-3.ensures c.if-difference-ne0.false in
    let in-a : Bytes s.a.now = λ j. omega (arith, c.type_inv.a j) in
    let in_b : Bytes s.b.now = λ j. omega (arith, c.type_inv.b j) in
    all_alike s.a.now s.b.now in-a in_b c.if-n-b.false 8 _ (more-alike _ _ in-a in_b 0 (λ j h. absurd (omega arith)) e.0) (omega arith) (omega arith) e.2 e.1

pub loop-k-init : goal.loop-k-init
loop-k-init c =
    let s = c.args in
    let e = three s.a.now s.b.now _ _ _ _ _ _ c.difference.ensures c.difference-2.ensures c.difference-3.ensures c.if-difference-ne0.false in
    more-alike _ _ (λ j. omega (arith, c.type_inv.a j)) (λ j. omega (arith, c.type_inv.b j)) 0 (λ j h. absurd (omega arith)) e.0

pub returns-then-difference-ne0-2 : goal.returns-then-difference-ne0-2
returns-then-difference-ne0-2 c =
    let s = c.args in
    differ-at s.a.now s.b.now _ _ c.difference-in-loop-k.ensures c.if-difference-ne0-2.true

pub loop-k-preserved : goal.loop-k-preserved
loop-k-preserved c =
    let s = c.args in
    let next : 8 * (c.loop-k.k + 1) ≡ 8 * c.loop-k.k + 8 = omega arith in
    rw next
    (more-alike s.a.now s.b.now (λ j. omega (arith, c.type_inv.a j)) (λ j. omega (arith, c.type_inv.b j)) _ c.loop-k.invariant
    (no_difference _ _ (sym c.difference-in-loop-k.ensures ∙ c.if-difference-ne0-2.false)))

pub returns : goal.returns
returns c =
    let s = c.args in
    let e = three s.a.now s.b.now _ _ _ _ _ _ c.difference.ensures c.difference-2.ensures c.difference-3.ensures c.if-difference-ne0.false in
    all_alike s.a.now s.b.now (λ j. omega (arith, c.type_inv.a j)) (λ j. omega (arith, c.type_inv.b j)) c.if-n-b.false _ _ c.loop-k.invariant (omega arith) (omega arith) e.1 e.1
