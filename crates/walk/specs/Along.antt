-- The nodes of a group, taken one by one. Assumes nothing.
use Rattle.std.specs.Prelude.{Option, Some, None, List, [], ℕ}
use Rattle.walk.specs.Groups.{nodes}
use Rattle.walk.specs.declared.Nodes.{Nodes}

-- the nodes from a place on, where there is one
abbrev pub left_from : List ℕ → Option ℕ → List (List ℕ)
left_from t (Some at) = nodes t at
left_from t None = []

-- the nodes that are left
abbrev pub nodes_left : Nodes → List (List ℕ)
nodes_left s = left_from s.text.now s.at
