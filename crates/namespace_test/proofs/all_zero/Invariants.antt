-- `namespace_test::all_zero` meets its contract: the words passed are zero where the number that joins them is.
-- Assumes nothing.
use Rattle.std.proofs.Common.{◌≡◌, ◌&&◌, drop}
use Rattle.std.specs.Prelude.{eqb}
use Rattle.entries.specs.NamespaceSound.{all_zero}
use Rattle.namespace_test.proofs.all_zero.Given as goal

abbrev pub invariant-loop-word : goal.invariant-loop-word
invariant-loop-word l = eqb l.any 0 && all_zero (drop l.word-index l.words) ≡ all_zero l.words
