-- Several s_groups made one after another on a table, each by its lowest member. Definitions only. Assumes nothing.
use Rattle.std.specs.Prelude.{List, [], ◌∷◌, ℕ}
use Rattle.nodes.specs.Sets.{lowest}
use Rattle.semantics.specs.Call.{call}
use Rattle.commands.specs.declared.Command.TheVariants.{NewSGroup}

-- the table after new_s_group for each two words, number and set
unfoldable pub created : List ℕ → List ℕ → List ℕ
created [] t = t
created (s ∷ []) t = t
created (s ∷ set ∷ ws) t = created ws (call 0 (lowest set) (NewSGroup s set) t).table
