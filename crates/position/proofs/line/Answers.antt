-- `position::line` meets its contract: the newlines in front are counted.
-- Assumes nothing.
use borrow.Author.Rules.{rules}
use borrow.Author.Tests.{tests}
use mathlib.Core.Path.{ap, sym, ◌∙◌}
use Prim.Native.Nat.{ℕ, ◌+◌}
use lib.Dec.{eqb}
use Rattle.std.proofs.lemmas.Iterator.{YieldsList-from_slice, YieldsList-from_take}
use Rattle.std.proofs.lemmas.Iterator.Consumers.{YieldsList-at, YieldsList-from_filter, count_from_yields_List}
use Rattle.text.specs.Text.{newline}
use Rattle.position.specs.PositionLaws.{lines-counted}
use Rattle.position.proofs.line.Goals as goal

pub returns : goal.returns
returns c =
    let e = count_from_yields_List _ _ c.count.ensures.ran (YieldsList-from_filter _ (λ b. eqb b newline) (YieldsList-at c.filter.ensures.source (YieldsList-from_take c.args.at (YieldsList-at c.take.ensures.source (YieldsList-from_slice _ c.iter.ensures.rest)) c.take.ensures.count)) c.filter.ensures.closure (λ x b q h. search (rules, tests))) in
    ap (λ (k : ℕ). 1 + k) e ∙ sym (lines-counted 1 _)
