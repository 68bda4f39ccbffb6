-- `nodes::unions_at` meets its contract: the walk over what is left, from what is gathered, is the whole walk. Assumes nothing.
use mathlib.Core.Path.{◌≡◌}
use Rattle.nodes.specs.Sets.{walk, gather, unions_at}
use Rattle.nodes.proofs.unions_at.Given as goal

abbrev pub invariant-loop-node : goal.invariant-loop-node
invariant-loop-node l = walk (gather l.words) l.node-iterator.0 l.all ≡ unions_at l.words l.set
