-- `free_test::own_lowest` meets its contract: what is gathered and what is left of the set together say what the whole set says. Assumes nothing.
use mathlib.Core.Path.{◌≡◌}
use mathlib.Core.Bool.{◌&&◌}
use Rattle.nodes.specs.Sets.{empty}
use Rattle.free_test.specs.WireTests.{all_of, is_lowest}
use Rattle.free_test.proofs.own_lowest.Given as goal

abbrev pub invariant-loop-i : goal.invariant-loop-i
invariant-loop-i l = (empty l.off && all_of l.i-iterator.0 (is_lowest l.free)) ≡ all_of l.set (is_lowest l.free)
