-- `text::find` meets its contract: the place of the first byte that passes, where one does.
-- Assumes nothing.
use borrow.Author.Rules.{rules}
use borrow.Author.Tests.{tests}
use mathlib.Core.Path.{◌∙◌}
use lib.Dec.{eqb}
use Rattle.std.proofs.lemmas.Iterator.{YieldsList-from_slice}
use Rattle.std.proofs.lemmas.Iterator.Search.{position_from_yields_List}
use Rattle.text.specs.Text.{found_in}
use Rattle.text.specs.FieldLaws.{find-position}
use Rattle.text.proofs.find.Goals as goal

pub returns : goal.returns
unfolding found_in
returns c =
    let s = c.args.s.now in
    let b = c.args.b in
    position_from_yields_List (λ x. eqb x b) _ _ _ c.position.ensures.ran (YieldsList-from_slice s c.iter.ensures.rest) (λ x b q h. search (rules, tests))
    ∙ rw (find-position b s)
