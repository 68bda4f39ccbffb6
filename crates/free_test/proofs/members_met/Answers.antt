-- `free_test::members_met` meets its contract: what is gathered and what is left of the set together say what the whole set says. Assumes nothing.
use mathlib.Core.Path.{sym, ap, ◌∙◌}
use Prim.Native.Nat.{ℕ}
use lib.ListN.{length}
use borrow.Author.Tests.{eq-eqb, ne_eqb}
use Rattle.nodes.specs.Sets.{node_limit, empty, union, diff, without_node, word_at}
use Rattle.nodes.proofs.SetLaws.{subset-diff}
use Rattle.free_test.specs.WireTests.{others_met, members_met}
use Rattle.free_test.specs.Gather.{met-turn, walked}
use Rattle.free_test.proofs.members_met.Goals as goal

pub returns-in_default : goal.returns-in_default
unfolding members_met
returns-in_default c = rw (ne_eqb (length c.args.links.now) node_limit c.in_default.ensures.cases)

pub loop-i-preserved : goal.loop-i-preserved
unfolding union
loop-i-preserved c =
    let at = c.loop-i in
    let links = c.in-Some.links.now in
    let set = c.args.set in
    let step = c.in-Some-i.ensures.steps in
    let i = c.in-Some-i.i in
    let lacks = ap empty (c.diff-missed.ensures ∙ ap (λ (s : ℕ). diff s (word_at links i)) c.without.ensures)
    ∙ sym (subset-diff (without_node set i) (word_at links i))
    ∙ ap (others_met links set) step.is in
    rw step.others (met-turn at.missed c.diff-missed.result at.i-iterator.0 (others_met links set) step.some step.fits lacks ∙ at.invariant)

pub returns : goal.returns
unfolding members_met
returns c =
    let at = c.loop-i in
    let whole = c.in-Some.ensures.cases in
    let links = c.in-Some.links.now in
    let set = c.args.set in
    rw (eq-eqb (length c.args.links.now) node_limit whole.long, ← whole.same)
    (walked (empty at.missed) at.i-iterator.0 (others_met links set) c.in-None.ensures.steps.0 ∙ at.invariant)
