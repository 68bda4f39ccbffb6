-- `duplicates::clashes` meets its contract: some group passes the test. Assumes nothing.
use mathlib.Core.Path.{ap, sym, ◌∙◌}
use mathlib.Core.List.{List}
use Rattle.std.specs.Prelude.{false}
use Rattle.std.proofs.Common.{rules, tests}
use Rattle.std.proofs.lemmas.Iterator.Adapters.{serves_from_places}
use Rattle.std.proofs.lemmas.Iterator.Consumers.{YieldsList-from_first}
use Rattle.std.proofs.lemmas.Iterator.Search.{any_from_yields_List}
use Rattle.grammar.specs.File.{Group as Named}
use Rattle.walk.specs.Groups.{groups}
use Rattle.duplicates.specs.Duplicates.{torn, clashing}
use Rattle.duplicates.specs.Next.{group_of}
use Rattle.duplicates.specs.Along.{places, places_left, places-inside, groups-placed, any-map, any-clashing}
use Rattle.duplicates.specs.declared.Group.{Group}
use Rattle.duplicates.proofs.clashes.Goals as goal

pub any-requires-clause-callable : goal.any-requires-clause-callable
any-requires-clause-callable c =
    let t = c.args.text.now in
    let road = YieldsList-from_first (λ (x : Group). x) places_left (places t c.args.g false) c.groups_at.ensures in
    serves_from_places road (λ x q r. search (rules, tests)) (λ x k h e. let i = places-inside t c.args.g false x k h e in search (rules, tests))

pub returns : goal.returns
returns c =
    let t = c.args.text.now in
    let all = groups t c.args.g in
    let v = c.args.node.now in
    any_from_yields_List (λ (x : Group). torn all (group_of t x).name (group_of t x).nodes v) c.any.new.self _ c.any.result c.any.ensures.ran (YieldsList-from_first (λ (x : Group). x) places_left (places t c.args.g false) c.groups_at.ensures) (λ x b q k. search (rules, tests))
    ∙ sym (any-map (λ (k : Named). torn all k.name k.nodes v) (group_of t) (places t c.args.g false))
    ∙ any-clashing all v _
    ∙ ap (λ (gs : List Named). clashing all gs v) (sym (groups-placed t c.args.g))
