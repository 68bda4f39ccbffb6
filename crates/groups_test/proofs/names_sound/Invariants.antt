-- `groups_test::names_sound` meets its contract: every s_group passed has a sound namespace.
-- Assumes nothing.
use mathlib.Core.Path.{◌≡◌}
use mathlib.Core.Bool.{true}
use Rattle.free_test.specs.WireTests.{all_below}
use Rattle.groups_test.specs.GroupTests.{names_right}
use Rattle.groups_test.proofs.names_sound.Given as goal

abbrev pub invariant-loop-i : goal.invariant-loop-i
invariant-loop-i l = all_below l.i (names_right l.cap l.t.words.now l.n) ≡ true
