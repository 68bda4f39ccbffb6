-- `groups_test::grouped_nodes` meets its contract: what is carried is the test of the s_groups passed, the nodes in them, and the last name.
-- Assumes nothing.
use borrow.Author.Rules.{rules}
use mathlib.Core.Path.{◌≡◌, sym, ap, ◌∙◌}
use Prim.Native.Nat.{ℕ, ◌≤◌}
use native.Mathlib.Numerals.{add-one}
use native.Mathlib.Omega.{arith}
use Rattle.nodes.specs.Sets.{union}
use Rattle.semantics.specs.Sizes.{group_limit}
use Rattle.semantics.specs.Soundness.{members_of}
use Rattle.free_test.specs.Below.{below_none}
use Rattle.groups_test.specs.GroupMembers.{grouped-none, grouped-step, right-step, grouped-told}
use Rattle.groups_test.proofs.grouped_nodes.Goals as goal

pub loop-i-init : goal.loop-i-init
loop-i-init c = record { tested = sym (below_none _); gathered = sym (grouped-none c.args.t.words.now); before = search rules }

pub loop-i-preserved : goal.loop-i-preserved
unfolding union
loop-i-preserved c =
    let v = c.loop-i in
    let t = c.args.t.words.now in
    record {
      tested = rw (c.group_name-name.ensures, c.name_count.ensures) (right-step c.args.cap t v.i v.right v.invariant.tested v.last v.invariant.before);
      gathered = ap (λ (w : ℕ). union w (members_of t v.i)) v.invariant.gathered ∙ grouped-step t (omega arith) v.i (omega arith);
      before = rw (c.group_name-name.ensures, add-one);
    }

pub returns : goal.returns
returns c =
    let v = c.loop-i in
    let a = c.args in
    let end : v.i ≡ a.t.count = omega arith in
    let few : v.i ≤ group_limit = omega arith in
    c.then_some.ensures
    ∙ rw (← end) (grouped-told a.cap a.t.words.now v.i a.n (omega arith) few v.right v.invariant.tested v.all v.invariant.gathered c.beyond.result c.beyond.ensures)
