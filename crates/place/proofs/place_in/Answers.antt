-- `place::place_in` meets its contract: a turn looks at the first of the words from i on.
-- Assumes nothing.
use Rattle.std.proofs.Common.{◌≡◌, sym, ◌∙◌, List, ◌∷◌, ℕ, suc, ◌+◌, ◌%◌, ◌≤◌, ◌<◌, length, get_or, drop, add-one, arith, drop-cons, lt-ltb, le-ltb, eq-eqb, ne_eqb}
use Rattle.std.proofs.Math.Seq.{drop-length}
use Rattle.std.specs.Prelude.{Ok, Err}
use Rattle.semantics.specs.Sizes.{group_names}
use Rattle.place.specs.Place.{place_in}
use Rattle.place.proofs.place_in.Goals as goal

module _ (ws : List ℕ) (s i : ℕ) where
  -- the name that a turn looks at
  abbrev other : ℕ
  other = get_or ws i 0 % group_names

  module _ (inside : i < length ws) where
    one : place_in i s (drop i ws) ≡ place_in i s (get_or ws i 0 ∷ drop (suc i) ws)
    one = rw (drop-cons ws i 0 inside)

    hit : other ≡ s → place_in i s (drop i ws) ≡ Ok i
    hit e = one ∙ rw (le-ltb other s (omega arith), eq-eqb other s)

    over : s ≤ other → (other ≡ s → ⊥) → place_in i s (drop i ws) ≡ Err i
    over l n = one ∙ rw (le-ltb other s, ne_eqb other s)

    under : other < s → place_in i s (drop i ws) ≡ place_in (i + 1) s (drop (i + 1) ws)
    under l = one ∙ rw (lt-ltb other s, add-one i)

  past : length ws ≤ i → i ≤ length ws → place_in i s (drop i ws) ≡ Err (length ws)
  past h k =
      let end : i ≡ length ws = omega arith in
      rw (end, drop-length ws)

pub returns-then-other-name : goal.returns-then-other-name
returns-then-other-name c =
    sym (c.loop-i.invariant ∙ hit c.args.contents.now c.args.s c.loop-i.i c.loop-i-test.true (sym c.group_name-other.ensures ∙ c.if-other-name.true))

pub returns-else-other-name : goal.returns-else-other-name
returns-else-other-name c =
    sym (c.loop-i.invariant ∙ over c.args.contents.now c.args.s c.loop-i.i c.loop-i-test.true (omega arith) (rw c.group_name-other.ensures at c.if-other-name.false))

pub loop-i-preserved : goal.loop-i-preserved
loop-i-preserved c =
    c.loop-i.invariant ∙ under c.args.contents.now c.args.s c.loop-i.i c.loop-i-test.true (omega arith)

pub returns : goal.returns
returns c =
    sym (c.loop-i.invariant ∙ past c.args.contents.now c.args.s c.loop-i.i (omega arith) c.loop-i.auto.i-end)
