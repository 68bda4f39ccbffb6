-- `own::shared_members` meets its contract: each set that has the node comes into the union. Assumes nothing.
use Rattle.std.proofs.Common.{ℕ, sym, ap, ◌∙◌, get_or, arith}
use Rattle.nodes.specs.Sets.{union}
use Rattle.own.proofs.OwnGroups.{share-more, share-same, share-none, share-all}
use Rattle.own.proofs.shared_members.Goals as goal
use Rattle.own.proofs.shared_members.Goals.{then-has, else-has}

pub loop-set-init : goal.loop-set-init
loop-set-init c = sym (share-none c.args.node c.args.members.now)

pub loop-set-preserved : goal.loop-set-preserved
unfolding union
loop-set-preserved c =
    let v = c.loop-set in
    let a = c.args in
    elim c.if-has.branch [
      | then-has w ↦ w.all-is ∙ ap (λ (x : ℕ). union x (get_or a.members.now v.set-index 0)) v.invariant
          ∙ share-more a.node v.set-index a.members.now c.loop-set-test.true (sym c.has.ensures ∙ w.if-has.true)
      | else-has w ↦ w.all-is ∙ v.invariant ∙ share-same a.node v.set-index a.members.now c.loop-set-test.true (sym c.has.ensures ∙ w.if-has.false)
    ]

pub returns : goal.returns
returns c = c.loop-set.invariant ∙ share-all c.args.node c.loop-set.set-index c.args.members.now (omega arith)
