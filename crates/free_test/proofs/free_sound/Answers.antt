-- `free_test::free_sound` meets its contract: the words from n on are the rest of the run, only a free normal node can fail the test of lowest nodes,
-- and where there is none every word is zero. Assumes nothing.
use mathlib.Core.Path.{ap, ap₂, ◌∙◌}
use mathlib.Core.Bool.{◌&&◌}
use native.Mathlib.Omega.{arith}
use lib.ListN.{length, drop, length-drop}
use borrow.Author.Tests.{eq-eqb, ne_eqb, le-leb, lt-leb}
use lib.Seq.{take_all}
use Prim.Native.Nat.{◌-◌}
use Rattle.nodes.specs.Sets.{node_limit}
use Rattle.free_test.specs.WireTests.{all_zero, free_sound}
use Rattle.free_test.specs.Loose.{loose-lowest, none-loose}
use Rattle.free_test.proofs.free_sound.Goals as goal

pub returns-in_default : goal.returns-in_default
unfolding free_sound
returns-in_default c = rw (ne_eqb (length c.args.links.now) node_limit c.in_default.ensures.cases)

pub returns-in_default-as_array : goal.returns-in_default-as_array
unfolding free_sound
returns-in_default-as_array c =
    let a = c.args in
    rw (eq-eqb (length a.links.now) node_limit c.in-Some.ensures.cases.long, ne_eqb (length a.free.now) node_limit c.in_default-as_array.ensures.cases)

pub returns-then-n-gt-NODE_LIMIT : goal.returns-then-n-gt-NODE_LIMIT
unfolding free_sound
returns-then-n-gt-NODE_LIMIT c =
    let a = c.args in
    rw (
      eq-eqb (length a.links.now) node_limit c.in-Some.ensures.cases.long,
      eq-eqb (length a.free.now) node_limit c.in-Some-as_array.ensures.cases.long,
      lt-leb a.n node_limit c.if-n-gt-NODE_LIMIT.true,
    )

pub returns-then-loose-eq0 : goal.returns-then-loose-eq0
unfolding free_sound
returns-then-loose-eq0 c =
    let a = c.args in
    let free = c.in-Some-as_array.ensures.cases in
    rw (
      eq-eqb (length a.links.now) node_limit c.in-Some.ensures.cases.long,
      eq-eqb (length a.free.now) node_limit free.long,
      le-leb a.n node_limit (omega arith),
      c.if-loose-eq0.true,
    )
    (c.all_zero.ensures ∙ ap all_zero free.same ∙ none-loose a.free.now free.long a.links.now a.n (omega arith))

pub returns : goal.returns
unfolding free_sound
returns c =
    let a = c.args in
    let links = c.in-Some.ensures.cases in
    let free = c.in-Some-as_array.ensures.cases in
    let words = c.in-Some-as_array.free.now in
    let past = take_all (node_limit - a.n) (drop a.n words) (omega (arith, length-drop a.n words)) in
    rw (
      eq-eqb (length a.links.now) node_limit links.long,
      eq-eqb (length a.free.now) node_limit free.long,
      le-leb a.n node_limit (omega arith),
      ← links.same,
      ← free.same,
    )
    (ap₂ ◌&&◌
    (ap₂ ◌&&◌ c.own_free.ensures (c.all_zero-2.ensures ∙ ap all_zero past))
    c.own_lowest.ensures
    ∙ loose-lowest words (omega arith) c.in-Some.links.now a.loose a.n (omega arith))
