-- `duplicates::holds` meets its contract: some node is the atom. Assumes nothing.
use mathlib.Core.Path.{◌∙◌}
use Rattle.std.proofs.Common.{rules, tests}
use Rattle.std.proofs.lemmas.Iterator.Consumers.{YieldsList-from_first}
use Rattle.std.proofs.lemmas.Iterator.Search.{any_from_yields_List}
use Rattle.tokens.specs.Reserved.{same}
use Rattle.walk.specs.Groups.{nodes}
use Rattle.walk.specs.Along.{nodes_left}
use Rattle.duplicates.specs.Next.{any-among}
use Rattle.duplicates.proofs.holds.Goals as goal

pub returns : goal.returns
returns c =
    any_from_yields_List (same c.args.atom.now) c.any.new.self _ c.any.result c.any.ensures.ran (YieldsList-from_first (λ x. x.now) nodes_left (nodes c.args.text.now c.args.at) c.nodes_from.ensures) (λ x b q k. search (rules, tests))
    ∙ any-among c.args.atom.now _
