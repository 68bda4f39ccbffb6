-- `plain_book::fits` meets its contract: the lines passed are atoms, none of them twice. Assumes nothing.
use borrow.Author.Rules.{rules}
use mathlib.Core.Path.{◌≡◌, refl, sym, ap, ◌∙◌}
use mathlib.Core.Bool.{true, false}
use mathlib.Core.List.{List}
use Prim.Native.Nat.{ℕ, ◌≤◌}
use native.Mathlib.Omega.{arith}
use lib.ListN.{length}
use Rattle.std.specs.Prelude.{Option, Some, None}
use Rattle.std.specs.Option.{is_some}
use Rattle.book.specs.Book.{fit}
use Rattle.book.specs.Passing.{groups_behind, end-found, groups-counted}
use Rattle.book.specs.Finding.{some-found}
use Rattle.book.specs.Reading.{count-within, no-line, stands-twice, no-book, is-book}
use Rattle.plain_book.specs.Unindexed.{Read, read_none, read_more}
use Rattle.plain_book.proofs.fits.Goals as goal

-- all are read
decided : (n : ℕ) (t : List ℕ) (i at : ℕ) → Read t i at → length t ≤ at → is_some (groups_behind i n) ≡ fit n t
decided n t i at R h = go (groups_behind i n) refl
  where
    go : (o : Option ℕ) → o ≡ groups_behind i n → is_some o ≡ fit n t
    go (Some g) e = let k = groups-counted i n g e in sym (is-book n t _ i at R.reading h k.0 (omega arith))
    go None e = sym (no-book n t _ i at R.reading h e)

pub loop-at-init : goal.loop-at-init
loop-at-init c = read_none _

pub returns-in_default : goal.returns-in_default
returns-in_default c = sym (no-line _ _ _ _ _ c.loop-at.invariant.reading c.loop-at-test.true c.in_default.ensures)

pub returns-then-is_some : goal.returns-then-is_some
returns-then-is_some c =
    let e = end-found _ _ _ c.in-Some.ensures in
    let m : is_some c.seek.result ≡ true = search rules in
    sym (stands-twice _ _ _ _ _ c.loop-at.invariant.reading _ e.at_newline e.inside (sym (ap is_some c.seek.ensures ∙ some-found _ _) ∙ m))

pub overflow_add-i : goal.overflow_add-i
overflow_add-i c = omega (arith, count-within 0 _ _ _ _ c.loop-at.invariant.reading)

pub loop-at-preserved : goal.loop-at-preserved
loop-at-preserved c =
    let e = end-found _ _ _ c.in-Some.ensures in
    let m : is_some c.seek.result ≡ false = search rules in
    read_more _ _ _ c.loop-at.invariant _ e.at_newline e.inside e.is_atom (sym (ap is_some c.seek.ensures ∙ some-found _ _) ∙ m)

pub returns : goal.returns
returns c =
    let d : c.is_some-2.result ≡ is_some c.groups_behind.result = search rules in
    d ∙ ap is_some c.groups_behind.ensures ∙ decided _ _ _ _ c.loop-at.invariant c.loop-at-test.false
