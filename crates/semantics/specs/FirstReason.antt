-- Which reason is given, the first of some tests that holds, and the tests of opening. Definitions only. Assumes nothing.
use Rattle.std.specs.Prelude.{Bool, not, ◌||◌, cond, List, [], ◌∷◌, ℕ, eqb, ltb}
use Rattle.nodes.specs.NodeSets.{node_limit, beyond}
use Rattle.semantics.specs.Sizes.{names_per_group, table_words}
use Rattle.answers.specs.declared.Reason.{Reason}
use Rattle.answers.specs.declared.Reason.TheVariants.{Done, TableLength, RosterSize, NodeUnknown}

-- one line of 01's table, for one command
pub record Test : Type 0 where
  pub reason : Reason
  pub holds : Bool

infix 70 ◌when◌
-- the reason r, and whether it holds
abbrev pub ◌when◌ : Reason → Bool → Test
r when x = record { reason = r; holds = x }

-- the first that holds, or Done
abbrev pub first : List Test → Reason
first [] = Done
first (t ∷ ts) = cond t.holds t.reason (first ts)

-- opening, in a run of so many words, N nodes, of which those of the set `hidden` are hidden
abbrev pub opening_tests : ℕ → ℕ → ℕ → List Test
opening_tests run N hidden =
    TableLength when not (eqb run (table_words names_per_group)) ∷ RosterSize when (eqb N 0 || ltb node_limit N)
    ∷ NodeUnknown when beyond hidden N ∷ []
