-- `free_test::known_met` meets its contract: what the members passed know and what is left of the set together say what the whole set says. Assumes nothing.
use mathlib.Core.Path.{◌≡◌}
use mathlib.Core.Bool.{◌&&◌}
use Rattle.nodes.specs.Sets.{subset}
use Rattle.free_test.specs.WireTests.{all_of}
use Rattle.free_test.specs.Knowing.{knows_all}
use Rattle.free_test.proofs.known_met.Given as goal

abbrev pub invariant-loop-i : goal.invariant-loop-i
invariant-loop-i l = (subset l.set l.common && all_of l.i-iterator.0 (knows_all l.known l.set)) ≡ all_of l.set (knows_all l.known l.set)
