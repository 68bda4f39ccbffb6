-- What the walk says where it says anything: of the nodes of a group, and of all groups. Definitions only. Assumes nothing.
use Rattle.std.specs.Prelude.{◌≡◌, true, List, ℕ, take, Ok}
use Rattle.pairs.specs.declared.Made.{Made}
use Rattle.pairs.specs.Woven.{woven}
use Rattle.walk.specs.Groups.{nodes, pass_nodes, groups, pass_groups}
use Rattle.book.specs.Book.{node_atoms}
use Rattle.duplicates.specs.Duplicates.{covered, kept}
use Rattle.plan.specs.Plan.{set_with, plan_words, verdict}

-- the nodes from a place on are on the roster and make s of the set w, and behind their group is m
pub record Noded (N : ℕ) (book t : List ℕ) (at w s m : ℕ) : Type 0 where
  pub known : covered (nodes t at) (node_atoms N book) ≡ true
  pub makes : set_with (node_atoms N book) w (nodes t at) ≡ s
  pub past : pass_nodes t at ≡ Ok m

-- behind the list of groups is e; k groups are made, whatever the starting node, and they are the first of those written
pub record Planned (N : ℕ) (book t : List ℕ) (g : ℕ) (written : List Made) (k e : ℕ) : Type 0 where
  pub past : pass_groups t g ≡ Ok e
  pub fits : (start : ℕ) → verdict N book start (groups t g) ≡ Ok k
  pub makes : woven (take k written) ≡ plan_words N book (kept (groups t g))
