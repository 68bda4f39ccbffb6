-- `plan::members_at` meets its contract: the nodes are those of the set so far and of the atoms that are left. Assumes nothing.
use mathlib.Core.Path.{◌≡◌}
use Rattle.walk.specs.Groups.{nodes}
use Rattle.walk.specs.Along.{nodes_left}
use Rattle.book.specs.Book.{node_atoms}
use Rattle.plan.specs.Looked.{members}
use Rattle.plan.proofs.members_at.Given as goal

abbrev pub invariant-loop-node : goal.invariant-loop-node
invariant-loop-node l =
    let atoms = node_atoms l.book.nodes l.book.text.now in
    members atoms 0 (nodes l.text l.at) ≡ members atoms l.set (nodes_left l.node-iterator)
