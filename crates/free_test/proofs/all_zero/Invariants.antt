-- `free_test::all_zero` meets its contract: what is gathered is zero where the words passed are. Assumes nothing.
use mathlib.Core.Path.{◌≡◌}
use Rattle.nodes.specs.Sets.{empty, word_at}
use Rattle.free_test.specs.WireTests.{all_below}
use Rattle.free_test.proofs.all_zero.Given as goal

abbrev pub invariant-loop-word : goal.invariant-loop-word
invariant-loop-word l = empty l.all ≡ all_below l.word-index (λ k. empty (word_at l.words k))
