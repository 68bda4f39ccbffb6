-- `duplicates::covers` meets its contract: all nodes are among the others. Assumes nothing.
use mathlib.Core.Path.{◌∙◌}
use Rattle.std.proofs.Common.{rules, tests}
use Rattle.std.proofs.lemmas.Iterator.Consumers.{YieldsList-from_first}
use Rattle.std.proofs.lemmas.Iterator.Search.{all_from_yields_List}
use Rattle.tokens.specs.Reserved.{among}
use Rattle.walk.specs.Groups.{nodes}
use Rattle.walk.specs.Along.{nodes_left}
use Rattle.duplicates.specs.Next.{all-covered}
use Rattle.duplicates.proofs.covers.Goals as goal

pub returns : goal.returns
returns c =
    all_from_yields_List (among (nodes c.args.text.now c.args.other)) c.all.new.self _ c.all.result c.all.ensures.ran (YieldsList-from_first (λ x. x.now) nodes_left (nodes c.args.text.now c.args.at) c.nodes_from.ensures) (λ x b q k. search (rules, tests))
    ∙ all-covered _ _
