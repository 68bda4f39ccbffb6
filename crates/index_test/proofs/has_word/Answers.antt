-- `index_test::has_word` meets its contract. The loop's invariant: the word, if it is held, stands at one of `left` places from `at` on. Assumes nothing.
use mathlib.Core.Path.{◌≡◌}
use native.Mathlib.Omega.{arith}
use Rattle.semantics.specs.Sizes.{names_per_group}
use Rattle.index_test.specs.Words.{found, words-upward}
use Rattle.index_test.proofs.has_word.Goals as goal

pub returns : goal.returns
returns c N es s e h =
    let last : c.loop-left.left ≡ 1 = omega arith in
    found c.args.word c.args.ns.now c.loop-left.at (rw last at c.loop-left.invariant) h (rw e (words-upward names_per_group N es s))
