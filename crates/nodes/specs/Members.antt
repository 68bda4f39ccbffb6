-- A walk over the nodes of a set, lowest first. Definitions only. Assumes nothing.
use Rattle.std.specs.Prelude.{◌≡◌, ℕ, ◌^◌, ◌<◌}
use Rattle.nodes.specs.Sets.{node_limit, lowest, rest}

-- a step: the node is the lowest of the set, and the others are left
pub record Step (set node left : ℕ) : Type 0 where
  pub some : 0 < set
  pub fits : set < 2 ^ node_limit
  pub below : node < node_limit
  pub is : node ≡ lowest set
  pub others : left ≡ rest set
