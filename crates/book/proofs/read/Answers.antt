-- `book::read` meets its contract: the lines passed are atoms, none of them twice, each with its mark, and their places are noted. Assumes nothing.
use borrow.Author.Tests.{not-true, not-false}
use mathlib.Core.Path.{◌≡◌, sym, ◌∙◌}
use mathlib.Core.Bool.{true, false, false≢true}
use mathlib.Core.List.{List}
use Prim.Native.Nat.{ℕ}
use native.Mathlib.Omega.{arith}
use Rattle.book.specs.Book.{fit}
use Rattle.book.specs.Index.{Noted}
use Rattle.book.specs.Reading.{start, count-within, no-line, stands-twice, goes-past, goes_on, no-book, is-book, is-noted}
use Rattle.book.specs.Passing.{end-found, groups-counted}
use Rattle.book.proofs.read.Goals as goal

refused : (n : ℕ) (t x : List ℕ) → fit n t ≡ false → (false ≡ fit n t) × (false ≡ true → Noted n t x)
refused n t x h = (sym h, λ e. absurd (false≢true e))

pub loop-at-init : goal.loop-at-init
loop-at-init c =
    rw (c.put_number.ensures, c.clear.ensures) (start _ c.args.index.now (omega arith))

pub returns-in_default : goal.returns-in_default
returns-in_default c = refused _ _ _ (no-line _ _ _ _ _ c.loop-at.invariant c.loop-at-test.true c.in_default.ensures)

pub returns-then-not-is_new : goal.returns-then-not-is_new
returns-then-not-is_new c =
    let e = end-found _ _ _ c.in-Some.ensures in
    refused _ _ _ (stands-twice _ _ _ _ _ c.loop-at.invariant _ e.at_newline e.inside (not-false _ (sym c.is_new.ensures.0 ∙ c.if-not-is_new.true)))

pub overflow_add-i : goal.overflow_add-i
overflow_add-i c =
    omega (arith, count-within 0 _ _ _ _ c.loop-at.invariant)

pub loop-at-preserved-then-i-le-INDEXED_LINES : goal.loop-at-preserved-then-i-le-INDEXED_LINES
loop-at-preserved-then-i-le-INDEXED_LINES c =
    let e = end-found _ _ _ c.in-Some.ensures in
    let n = not-true _ (sym c.is_new.ensures.0 ∙ c.if-not-is_new.false) in
    rw (c.put_number-then-i-le-INDEXED_LINES.ensures, c.is_new.ensures.1) (goes_on 0 _ _ _ _ c.loop-at.invariant _ e.at_newline e.inside e.is_atom n c.if-i-le-INDEXED_LINES.true)

pub loop-at-preserved : goal.loop-at-preserved
loop-at-preserved c =
    let e = end-found _ _ _ c.in-Some.ensures in
    let n = not-true _ (sym c.is_new.ensures.0 ∙ c.if-not-is_new.false) in
    rw c.is_new.ensures.1 (goes-past 0 _ _ _ _ c.loop-at.invariant _ e.at_newline e.inside e.is_atom n c.if-i-le-INDEXED_LINES.false)

pub returns-in_default-groups_behind : goal.returns-in_default-groups_behind
returns-in_default-groups_behind c = refused _ _ _ (no-book _ _ _ _ _ c.loop-at.invariant c.loop-at-test.false c.in_default-groups_behind.ensures)

pub returns : goal.returns
returns c =
    let h = c.loop-at-test.false in
    let g = groups-counted _ _ _ c.in-Some-groups_behind.ensures in (
      sym (is-book _ _ _ _ _ c.loop-at.invariant h g.0 (omega arith)),
      λ e. rw (c.put_number-2.ensures, g.1) (is-noted _ _ _ _ _ c.loop-at.invariant h g.0 (omega arith)),
    )
