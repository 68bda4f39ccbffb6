-- `text::field` meets its contract: the k-th part of the cut, or nothing.
-- Assumes nothing.
use borrow.Author.Rules.{rules}
use borrow.Author.Tests.{tests}
use mathlib.Core.Path.{◌≡◌, refl, sym, ap, ◌∙◌}
use mathlib.Core.List.{List, []}
use Prim.Native.Nat.{ℕ}
use denote.Ref.{Bor}
use lib.Dec.{eqb}
use Rattle.std.specs.Prelude.{Option, Some, None}
use Rattle.std.specs.Option.{unwrap_or, option_map}
use Rattle.std.proofs.lemmas.Option.{unwrap_or-slice_get}
use Rattle.std.proofs.lemmas.Iterator.Consumers.{nth_from_yields_List}
use Rattle.std.proofs.lemmas.Iterator.Splits.{YieldsList-from_slice_split}
use Rattle.text.specs.Text.{space, field}
use Rattle.text.specs.FieldLaws.{fields-split}
use Rattle.text.proofs.field.Goals as goal

-- what is lent is read before or after the choice
lent : (o : Option (Bor (List ℕ))) (d : Bor (List ℕ)) → (unwrap_or o d).now ≡ unwrap_or (option_map (λ x. x.now) o) d.now
lent None d = refl
lent (Some x) d = refl

pub returns : goal.returns
returns c =
    let k = c.split.ensures in
    let e = nth_from_yields_List _ _ _ c.nth.ensures.ran (YieldsList-from_slice_split _ (λ b. eqb b space) _ k.rest k.done k.closure (λ x b q h. search (rules, tests))) in
    ap (λ (x : Bor (List ℕ)). x.now) c.unwrap_or.ensures
    ∙ lent c.nth.result _
    ∙ ap (λ (o : Option (List ℕ)). unwrap_or o []) e
    ∙ unwrap_or-slice_get _ c.args.k []
    ∙ sym (ap (field c.args.k) (fields-split _))
