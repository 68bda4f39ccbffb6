-- `text::count` meets its contract: the parts of the cut are counted, and they are the fields.
-- Assumes nothing.
use borrow.Author.Rules.{rules}
use borrow.Author.Tests.{tests}
use mathlib.Core.Path.{sym, ap, ◌∙◌}
use lib.Dec.{eqb}
use lib.ListN.{length}
use Rattle.std.proofs.lemmas.Iterator.Consumers.{count_from_yields_List}
use Rattle.std.proofs.lemmas.Iterator.Splits.{YieldsList-from_slice_split}
use Rattle.text.specs.Text.{space}
use Rattle.text.specs.FieldLaws.{fields-split}
use Rattle.text.proofs.count.Goals as goal

pub returns : goal.returns
returns c =
    let k = c.split.ensures in
    count_from_yields_List _ _ c.count.ensures.ran (YieldsList-from_slice_split _ (λ b. eqb b space) _ k.rest k.done k.closure (λ x b q h. search (rules, tests)))
    ∙ sym (ap length (fields-split _))
