-- `free_test::own_free` meets its contract: what is gathered is zero where each word passed is the group that is due. Assumes nothing.
use mathlib.Core.Path.{◌≡◌}
use Rattle.nodes.specs.Sets.{empty}
use Rattle.free_test.specs.WireTests.{own_free}
use Rattle.free_test.proofs.own_free.Given as goal

abbrev pub invariant-loop-i : goal.invariant-loop-i
invariant-loop-i l = empty l.off ≡ own_free l.links l.free l.loose l.i
