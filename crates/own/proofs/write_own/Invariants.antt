-- `own::write_own` meets its contract. The loop's invariant: the list of the s_groups so far stands at the start of the run. Assumes nothing.
use mathlib.Core.Path.{◌≡◌}
use lib.ListN.{length}
use Rattle.semantics.specs.Call.{listed_over}
use Rattle.own.proofs.OwnGroups.{own_first}
use Rattle.own.proofs.write_own.Given as goal

abbrev pub invariant-loop-word : goal.invariant-loop-word
invariant-loop-word l =
    (l.at ≡ length (own_first l.node (length l.yielded) l.contents l.members))
    × (l.out ≡ listed_over (own_first l.node (length l.yielded) l.contents l.members) l.initial.out)
