-- `duplicates::named_among` meets its contract: some group of the first passes the test. Assumes nothing.
use mathlib.Core.Path.{ap, sym, ◌∙◌}
use mathlib.Core.List.{List}
use lib.ListN.{take}
use Rattle.std.specs.Prelude.{false}
use Rattle.std.specs.List.{take-map}
use Rattle.std.proofs.Common.{rules, tests}
use Rattle.std.proofs.lemmas.Iterator.{YieldsList-from_take}
use Rattle.std.proofs.lemmas.Iterator.Adapters.{serves_from_places}
use Rattle.std.proofs.lemmas.Iterator.Consumers.{YieldsList-from_first}
use Rattle.std.proofs.lemmas.Iterator.Search.{any_from_yields_List}
use Rattle.tokens.specs.Reserved.{same}
use Rattle.grammar.specs.File.{Group as Named}
use Rattle.duplicates.specs.Duplicates.{named}
use Rattle.duplicates.specs.Next.{group_of}
use Rattle.duplicates.specs.Along.{places, places_left, first-inside, groups-placed, any-map, any-named}
use Rattle.duplicates.specs.declared.Group.{Group}
use Rattle.duplicates.proofs.named_among.Goals as goal

pub any-requires-clause-callable : goal.any-requires-clause-callable
any-requires-clause-callable c =
    let t = c.args.text.now in
    let all = YieldsList-from_first (λ (x : Group). x) places_left (places t c.args.g false) (ap places_left c.take.ensures.source ∙ c.groups_at.ensures) in
    let road = YieldsList-from_take c.args.count all c.take.ensures.count in
    serves_from_places road (λ x q r. search (rules, tests)) (λ x k h e. let i = first-inside t c.args.count c.args.g false x k h e in search (rules, tests))

pub returns : goal.returns
returns c =
    let t = c.args.text.now in
    let w = c.args.name.now in
    let n = c.args.count in
    let ps = places t c.args.g false in
    let all = YieldsList-from_first (λ (x : Group). x) places_left ps (ap places_left c.take.ensures.source ∙ c.groups_at.ensures) in
    any_from_yields_List (λ (x : Group). same (group_of t x).name w) c.any.new.self _ c.any.result c.any.ensures.ran (YieldsList-from_take n all c.take.ensures.count) (λ x b q k. search (rules, tests))
    ∙ sym (any-map (λ (k : Named). same k.name w) (group_of t) (take n ps))
    ∙ any-named w _
    ∙ ap (λ (gs : List Named). named gs w) (sym (ap (take n) (groups-placed t c.args.g) ∙ take-map (group_of t) n ps))
