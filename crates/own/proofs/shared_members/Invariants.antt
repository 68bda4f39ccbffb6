-- `own::shared_members` meets its contract. The loop's invariant: `all` is the union of the sets so far that have the node. Assumes nothing.
use mathlib.Core.Path.{◌≡◌}
use Rattle.own.proofs.OwnGroups.{shared_first}
use Rattle.own.proofs.shared_members.Given as goal

abbrev pub invariant-loop-set : goal.invariant-loop-set
invariant-loop-set l = l.all ≡ shared_first l.node l.set-index l.members
