-- `links_test::own_linked` meets its contract: what is gathered is zero where each word passed is what its node may have.
-- Assumes nothing.
use mathlib.Core.Path.{◌≡◌, sym, ap, ap₂, ◌∙◌}
use Prim.Native.Nat.{ℕ, ◌-◌, ◌*◌, ◌%◌, ◌^◌, ◌≤◌, min}
use native.Mathlib.Omega.{arith}
use Rattle.nodes.specs.Sets.{node_limit, empty, roster, union, inter, word_at}
use Rattle.nodes.proofs.Words.{shl_one}
use Rattle.semantics.specs.Test.{linked}
use Rattle.free_test.specs.Below.{below_none}
use Rattle.free_test.specs.Gather.{gathered}
use Rattle.links_test.specs.Mutual.{empty-linked}
use Rattle.links_test.proofs.own_linked.Goals as goal

pub loop-i-init : goal.loop-i-init
loop-i-init c = sym (below_none _)

pub loop-i-preserved : goal.loop-i-preserved
unfolding union inter
loop-i-preserved c =
    let at = c.loop-i in
    let a = c.args in
    let links = c.args.links.now in
    let word = word_at links at.i in
    let all = c.roster-outside in
    let few : a.n ≤ node_limit = omega arith in
    let limited : min a.n node_limit ≡ a.n = omega arith in
    let outside = ap (λ (w : ℕ). roster node_limit - w) (all.ensures ∙ ap roster limited) in
    gathered at.off (inter word (union (roster node_limit - all.result) (1 * 2 ^ at.i % 2 ^ node_limit))) at.i
    (λ k. linked a.n k (word_at links k)) at.invariant
    (ap₂ (λ (o s : ℕ). empty (inter word (union o s))) outside (shl_one at.i (omega arith))
    ∙ empty-linked word a.n at.i (omega arith) few)
