-- `free_test::members_met` meets its contract: what is gathered and what is left of the set together say what the whole set says. Assumes nothing.
use mathlib.Core.Path.{◌≡◌}
use mathlib.Core.Bool.{◌&&◌}
use Rattle.nodes.specs.Sets.{empty}
use Rattle.free_test.specs.WireTests.{all_of, others_met}
use Rattle.free_test.proofs.members_met.Given as goal

abbrev pub invariant-loop-i : goal.invariant-loop-i
invariant-loop-i l = (empty l.missed && all_of l.i-iterator.0 (others_met l.links l.set)) ≡ all_of l.set (others_met l.links l.set)
