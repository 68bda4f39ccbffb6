-- `links_test::links_sound` meets its contract: each test is one of the definition's, the words from n on are
-- the rest of the run, and all 64 nodes are mutual where the n are. Assumes nothing.
use mathlib.Core.Path.{ap, ap₂, ◌∙◌}
use mathlib.Core.Bool.{◌&&◌}
use Prim.Native.Nat.{◌-◌}
use native.Mathlib.Omega.{arith}
use lib.ListN.{length, drop, length-drop}
use lib.Seq.{take_all}
use borrow.Author.Tests.{eq-eqb, ne_eqb, le-leb, lt-leb}
use Rattle.nodes.specs.Sets.{node_limit}
use Rattle.free_test.specs.WireTests.{all_zero, links_sound}
use Rattle.links_test.specs.Mutual.{whole-mutual}
use Rattle.links_test.proofs.links_sound.Goals as goal

pub returns-in_default : goal.returns-in_default
unfolding links_sound
returns-in_default c = rw (ne_eqb (length c.args.links.now) node_limit c.in_default.ensures.cases)

pub returns-then-n-gt-NODE_LIMIT : goal.returns-then-n-gt-NODE_LIMIT
unfolding links_sound
returns-then-n-gt-NODE_LIMIT c =
    let a = c.args in
    rw (eq-eqb (length a.links.now) node_limit c.in-Some.ensures.cases.long, lt-leb a.n node_limit c.if-n-gt-NODE_LIMIT.true)

pub returns-then-n-lt-TURNED_FROM : goal.returns-then-n-lt-TURNED_FROM
unfolding links_sound
returns-then-n-lt-TURNED_FROM c =
    let a = c.args in
    let whole = c.in-Some.ensures.cases in
    let links = c.in-Some.links.now in
    let past = take_all (node_limit - a.n) (drop a.n links) (omega (arith, length-drop a.n links)) in
    rw (eq-eqb (length a.links.now) node_limit whole.long, le-leb a.n node_limit (omega arith), ← whole.same)
    (ap₂ ◌&&◌ (ap₂ ◌&&◌ c.own_linked.ensures (c.all_zero.ensures ∙ ap all_zero past)) c.pairs_mutual.ensures)

pub returns-else-n-lt-TURNED_FROM : goal.returns-else-n-lt-TURNED_FROM
unfolding links_sound
returns-else-n-lt-TURNED_FROM c =
    let a = c.args in
    let whole = c.in-Some.ensures.cases in
    let links = c.in-Some.links.now in
    let past = take_all (node_limit - a.n) (drop a.n links) (omega (arith, length-drop a.n links)) in
    rw (eq-eqb (length a.links.now) node_limit whole.long, le-leb a.n node_limit (omega arith), ← whole.same)
    (ap₂ ◌&&◌ (ap₂ ◌&&◌ c.own_linked.ensures (c.all_zero.ensures ∙ ap all_zero past)) c.turned_mutual.ensures
    ∙ whole-mutual links a.n (omega arith) (omega arith))
