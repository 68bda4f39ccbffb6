-- `table::bodies_zero` meets its contract: the words of the s_groups that were passed are tested.
-- Assumes nothing.
use mathlib.Core.Path.{◌≡◌}
use Prim.Native.Nat.{◌+◌, ◌*◌}
use Rattle.semantics.specs.Sizes.{bodies_at}
use Rattle.free_test.specs.WireTests.{all_zero}
use Rattle.groups_test.specs.GroupTests.{part}
use Rattle.table.proofs.bodies_zero.Given as goal

abbrev pub invariant-loop-i : goal.invariant-loop-i
invariant-loop-i l =
    l.right ≡ all_zero (part l.t.words.now (bodies_at + l.cap * l.t.count) (bodies_at + l.cap * l.i))
