-- `book::is_new` meets its contract: an atom without its mark is new, and any other is looked for, by the places of the lines or by their newlines. Assumes nothing.
use borrow.Author.Rules.{rules, part_to_end}
use mathlib.Core.Path.{◌≡◌, refl, sym, ap, ◌∙◌}
use mathlib.Core.Bool.{Bool, true, false, not, true≢false}
use mathlib.Core.List.{List}
use Prim.Native.Nat.{ℕ, ◌%◌}
use native.Mathlib.Omega.{arith}
use Rattle.std.specs.Option.{is_some}
use Rattle.tokens.specs.Reserved.{among}
use Rattle.book_index.specs.Layout.{mark_count, has_mark}
use Rattle.book.specs.Index.{atom_mark, Marked}
use Rattle.book.specs.Finding.{some-found}
use Rattle.book.specs.Passing.{first_lines}
use Rattle.book.specs.Reading.{places_marked}
use Rattle.book.proofs.is_new.Goals as goal

-- what has no mark is none of the lines
unmarked : (ls : List (List ℕ)) (x a : List ℕ) → Marked ls x → has_mark x (atom_mark a) ≡ false → true ≡ not (among ls a)
unmarked ls x a m h = go (among ls a) refl
  where
    go : (t : Bool) → among ls a ≡ t → true ≡ not t
    go true e = absurd (true≢false (sym (m a e) ∙ h))
    go false e = refl

pub among_first-requires : goal.among_first-requires
among_first-requires c =
    let p = places_marked 0 _ _ _ _ c.requires _ _ (omega arith) c.set_mark.ensures c.if-count-le-INDEXED_LINES.true in
    (p.1, p.2, p.3)

pub returns-then-count-le-INDEXED_LINES : goal.returns-then-count-le-INDEXED_LINES
returns-then-count-le-INDEXED_LINES c =
    let e : c.mark_of.result % mark_count ≡ atom_mark c.args.atom.now = ap (λ (k : ℕ). k % mark_count) c.mark_of.ensures in
    (ap not (c.among_first.ensures ∙ ap (λ (ls : List (List ℕ)). among ls c.args.atom.now) (first_lines _ _ _ c.requires.passed).0), c.set_mark.ensures ∙ rw e)

pub returns : goal.returns
returns c =
    let e : c.mark_of.result % mark_count ≡ atom_mark c.args.atom.now = ap (λ (k : ℕ). k % mark_count) c.mark_of.ensures in
    let b : c.is_none.result ≡ not (is_some c.seek.result) = search rules in
    (b ∙ ap not (ap is_some c.seek.ensures ∙ some-found _ _) ∙ rw (part_to_end c.args.atom.now 0), c.set_mark.ensures ∙ rw e)
