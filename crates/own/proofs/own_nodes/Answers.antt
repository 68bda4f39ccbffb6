-- `own::own_nodes` meets its contract: refused by the caller, or the set of its groups with its count.
-- Assumes nothing.
use mathlib.Core.Path.{ap, ap₂, ◌∙◌}
use native.Mathlib.Omega.{arith}
use Prim.Native.Nat.{ℕ}
use lib.ListN.{get_or}
use Rattle.nodes.specs.Sets.{count}
use Rattle.answers.specs.Answers.{answer_of}
use Rattle.semantics.specs.Table.{state_of}
use Rattle.answers.specs.declared.Value.TheVariants.{Nodes}
use Rattle.answers.specs.declared.Reason.TheVariants.{Done}
use Rattle.returns.specs.Judged.{step-own-nodes, refused, passed}
use Rattle.inputs.specs.Passed.{caller-done}
use Rattle.inputs.proofs.Reasons.{passes}
use Rattle.place.specs.Sound.{here, nodes-few}
use Rattle.returns.specs.Shown.{answers}
use Rattle.own.proofs.own_nodes.Goals as goal

pub returns-in-Err : goal.returns-in-Err
unfolding state_of
returns-in-Err c =
    rw c.refused.ensures (answers c.args.t.words.now c.args.t.fit
    (refused (step-own-nodes 0 c.args.caller (here c.args.t.words.now)) (rw c.size.ensures.value at c.check_caller.ensures) c.in-Err.is))

pub own_set-set-requires : goal.own_set-set-requires
own_set-set-requires c =
    let t = c.args.t.words.now in
    let known = caller-done (get_or t 0 0) c.args.caller (passes (rw c.size.ensures.value at c.check_caller.ensures) c.in_default.is) in
    omega (arith, known, nodes-few t c.args.t.fit)

pub returns : goal.returns
unfolding state_of
returns c =
    let t = c.args.t.words.now in
    rw c.done.ensures (ap₂ (λ (x y : ℕ). answer_of (Nodes x y) Done) c.own_set-set.ensures (c.count.ensures ∙ ap count c.own_set-set.ensures)
    ∙ answers t c.args.t.fit (passed (step-own-nodes 0 c.args.caller (here t)) (rw c.size.ensures.value at c.check_caller.ensures) c.in_default.is))
