-- `nodes::union_all` meets its contract: what is gathered is the union of the words passed. Assumes nothing.
use mathlib.Core.Path.{refl, ap, ◌∙◌}
use Prim.Native.Nat.{ℕ}
use lib.ListN.{take}
use Rattle.nodes.specs.Sets.{union, word_at, union_all}
use Rattle.nodes.proofs.SetLaws.{union_all-take}
use Rattle.nodes.proofs.union_all.Goals as goal

pub loop-word-init : goal.loop-word-init
unfolding union_all
loop-word-init c = refl

pub loop-word-preserved : goal.loop-word-preserved
unfolding union
loop-word-preserved c =
    let passed = take c.min.result c.args.words.now in
    let at = c.loop-word.word-index in
    ap (λ (w : ℕ). union w (word_at passed at)) c.loop-word.invariant ∙ union_all-take passed at c.loop-word-test.true
