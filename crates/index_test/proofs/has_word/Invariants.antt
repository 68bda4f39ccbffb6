-- `index_test::has_word` meets its contract. The loop's invariant: the word, if it is held, stands at one of `left` places from `at` on. Assumes nothing.
use Rattle.index_test.specs.Words.{Within}
use Rattle.index_test.proofs.has_word.Given as goal

abbrev pub invariant-loop-left : goal.invariant-loop-left
invariant-loop-left l = Within l.word l.ns l.at l.left

abbrev pub decreases-loop-left : goal.decreases-loop-left
decreases-loop-left l = l.left
