-- When s_groups can be made one after another, two words a group, that no call for them is refused, and that they are there. Definitions only.
-- Assumes nothing.
use Rattle.std.specs.Prelude.{◌≡◌, Bool, true, not, ◌&&◌, List, [], ◌∷◌, ℕ, ◌+◌, ◌/◌, ◌≤◌, eqb, length}
use Rattle.std.proofs.Math.Option.{none, some}
use Rattle.nodes.specs.Sets.{empty, beyond, lowest}
use Rattle.semantics.specs.Sizes.{group_limit, names_per_group}
use Rattle.semantics.specs.Ranges.{bad_group}
use Rattle.semantics.specs.State.{Group, find}
use Rattle.semantics.specs.Table.{state_of}
use Rattle.semantics.specs.Test.{sound}
use Rattle.semantics.specs.Call.{Call, call}
use Rattle.commands.specs.declared.Command.TheVariants.{NewSGroup}
use Rattle.answers.specs.Answers.{answer_of}
use Rattle.answers.specs.declared.Value.TheVariants.{Grouped}
use Rattle.answers.specs.declared.Reason.TheVariants.{Done}

-- the number is none of the words' numbers
unfoldable pub differs : ℕ → List ℕ → Bool
differs s [] = true
differs s (q ∷ []) = true
differs s (q ∷ set ∷ ws) = not (eqb s q) && differs s ws

-- every number names an s_group and stands there once, and every set has a node and none beyond the first N
unfoldable pub makeable : ℕ → List ℕ → Bool
makeable N [] = true
makeable N (s ∷ []) = true
makeable N (s ∷ set ∷ ws) = not (bad_group s) && not (empty set) && not (beyond set N) && differs s ws && makeable N ws

-- none of the s_groups has one of the words' numbers
unfoldable pub AreUnused : List ℕ → List Group → Type 0
AreUnused [] gs = Unit {0}
AreUnused (s ∷ []) gs = Unit {0}
AreUnused (s ∷ set ∷ ws) gs = (find s gs ≡ none) × AreUnused ws gs

-- the words can be made on the table: it is sound, of N nodes, has room for all, and none of their numbers is taken
pub record Ready (N : ℕ) (ws t : List ℕ) : Type 0 where
  pub whole : sound names_per_group t ≡ true
  pub wide : (state_of names_per_group t).size ≡ N
  pub free : AreUnused ws (state_of names_per_group t).groups
  pub room : length (state_of names_per_group t).groups + length ws / 2 ≤ group_limit
  pub right : makeable N ws ≡ true

-- each call in turn makes its s_group: none is refused
unfoldable pub EachMade : List ℕ → List ℕ → Type 0
EachMade [] t = Unit {0}
EachMade (s ∷ []) t = Unit {0}
EachMade (s ∷ set ∷ ws) t =
    let c : Call = call 0 (lowest set) (NewSGroup s set) t in (c.answer ≡ answer_of (Grouped s set) Done) × EachMade ws c.table

-- each number of the words has its s_group, of its set and with no names
unfoldable pub AllThere : List ℕ → List Group → Type 0
AllThere [] gs = Unit {0}
AllThere (s ∷ []) gs = Unit {0}
AllThere (s ∷ set ∷ ws) gs = (find s gs ≡ some (record { name = s; members = set; names = [] })) × AllThere ws gs
