-- `free_test::all_zero` meets its contract: what is gathered is zero where the words passed are. Assumes nothing.
use mathlib.Core.Path.{◌≡◌, refl, sym, ap, ◌∙◌}
use Prim.Native.Nat.{ℕ}
use native.Mathlib.Omega.{arith}
use lib.ListN.{length}
use Rattle.nodes.specs.Sets.{empty, union, word_at}
use Rattle.free_test.specs.WireTests.{all_below, all_zero}
use Rattle.free_test.specs.Below.{below_none}
use Rattle.free_test.specs.Gather.{gathered}
use Rattle.free_test.proofs.all_zero.Goals as goal

pub loop-word-init : goal.loop-word-init
loop-word-init c = sym (below_none _)

pub loop-word-preserved : goal.loop-word-preserved
unfolding union
loop-word-preserved c =
    let at = c.loop-word in
    let words = c.args.words.now in
    gathered at.all (word_at words at.word-index) at.word-index (λ k. empty (word_at words k)) at.invariant refl

pub returns : goal.returns
unfolding all_zero
returns c =
    let words = c.args.words.now in
    let end : c.loop-word.word-index ≡ length words = omega arith in
    c.loop-word.invariant ∙ ap (λ (n : ℕ). all_below n (λ k. empty (word_at words k))) end
