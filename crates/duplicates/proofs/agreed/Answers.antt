-- `duplicates::agreed` meets its contract: all groups pass the test. Assumes nothing.
use mathlib.Core.Path.{ap, sym, ◌∙◌}
use mathlib.Core.Bool.{not}
use mathlib.Core.List.{List}
use Rattle.std.specs.Prelude.{◌||◌, false}
use Rattle.std.proofs.Common.{rules, tests}
use Rattle.std.proofs.lemmas.Iterator.Adapters.{serves_from_places}
use Rattle.std.proofs.lemmas.Iterator.Consumers.{YieldsList-from_first}
use Rattle.std.proofs.lemmas.Iterator.Search.{all_from_yields_List}
use Rattle.std.proofs.lemmas.List.Folds.{list_all-map}
use Rattle.tokens.specs.Reserved.{same}
use Rattle.grammar.specs.File.{Group as Named}
use Rattle.walk.specs.Groups.{nodes}
use Rattle.duplicates.specs.Duplicates.{equal_nodes, agreed}
use Rattle.duplicates.specs.Next.{group_of}
use Rattle.duplicates.specs.Along.{places, places_left, places-inside, groups-placed, all-agreed}
use Rattle.duplicates.specs.declared.Group.{Group}
use Rattle.duplicates.proofs.agreed.Goals as goal

pub all-requires-clause-callable : goal.all-requires-clause-callable
all-requires-clause-callable c =
    let t = c.args.text.now in
    let road = YieldsList-from_first (λ (x : Group). x) places_left (places t c.args.g false) c.groups_at.ensures in
    serves_from_places road (λ x q r. search (rules, tests)) (λ x k h e. let i = places-inside t c.args.g false x k h e in search (rules, tests))

pub returns : goal.returns
returns c =
    let t = c.args.text.now in
    let w = c.args.name.now in
    let ws = nodes t c.args.at in
    all_from_yields_List (λ (x : Group). not (same (group_of t x).name w) || equal_nodes (group_of t x).nodes ws) c.all.new.self _ c.all.result c.all.ensures.ran (YieldsList-from_first (λ (x : Group). x) places_left (places t c.args.g false) c.groups_at.ensures) (λ x b q k. search (rules, tests))
    ∙ sym (list_all-map (λ (k : Named). not (same k.name w) || equal_nodes k.nodes ws) (group_of t) (places t c.args.g false))
    ∙ all-agreed w ws _
    ∙ ap (λ (gs : List Named). agreed gs w ws) (sym (groups-placed t c.args.g))
