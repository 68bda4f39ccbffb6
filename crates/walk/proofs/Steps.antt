-- What the functions' proofs rest on: no sign stands where the text ends, and the walks go on step by step. Assumes nothing.
use Rattle.std.specs.Prelude.{◌≡◌, Err, List, ℕ, ◌≤◌, length}
use Rattle.std.proofs.Common.{le-ltb}
use Rattle.walk.specs.Walk.{dark, sign_from, sign_at}
use Rattle.walk.specs.Atoms.{dark-again}
use Rattle.walk.specs.Unfold.{node-ahead, last-ahead, nodes-unfold, pass_nodes-unfold, pass_groups-unfold}

-- behind white space that ends the text no sign stands
pub sign_ended : (t : List ℕ) (at c : ℕ) → length t ≤ dark t at → sign_at t (dark t at) c ≡ Err (dark t at)
unfolding sign_at sign_from
sign_ended t at c l = rw (dark-again t at, le-ltb (dark t at) (length t) l)

-- a step along the nodes of a group
pub ruleset node_steps = pass_nodes-unfold

-- the next of the nodes of a group
pub ruleset next_node = (node-ahead, last-ahead, nodes-unfold)

-- a step along the groups
pub ruleset group_steps = pass_groups-unfold
