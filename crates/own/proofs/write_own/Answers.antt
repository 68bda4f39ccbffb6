-- `own::write_own` meets its contract: each s_group that has the node comes behind those so far. Assumes nothing.
use Rattle.std.proofs.Common.{rules, ◌∙◌, sym, arith, ap, length-append, length-set, ℕ, List, ◌∷◌, [], length}
use Rattle.semantics.specs.Call.{listed_over}
use Rattle.std.proofs.lemmas.Slice.Zip.{zip_turn, zip_end}
use Rattle.own.proofs.OwnGroups.{own-all, room, written, passed_by}
use Rattle.own.proofs.write_own.Goals as goal

pub bounds-out-at : goal.bounds-out-at
bounds-out-at c =
    let v = c.loop-word in
    let a = c.args in
    let turn = zip_turn a.contents.now a.members.now v.yielded c.into_iter-word-iterator.result v.word-iterator c.next.new.self c.next.result (search rules) (search rules) v.yielded_by _ c.in-Some.is c.next.ensures.steps in
    omega (arith, room a.node a.contents.now a.members.now turn a.out.now c.requires v.at v.out v.invariant v.auto.out (sym c.has.ensures ∙ c.if-has.true))

pub bounds-out-at-then-has : goal.bounds-out-at-then-has
bounds-out-at-then-has c =
    let v = c.loop-word in
    let a = c.args in
    let turn = zip_turn a.contents.now a.members.now v.yielded c.into_iter-word-iterator.result v.word-iterator c.next.new.self c.next.result (search rules) (search rules) v.yielded_by _ c.in-Some.is c.next.ensures.steps in
    simp length-set (omega (arith, room a.node a.contents.now a.members.now turn a.out.now c.requires v.at v.out v.invariant v.auto.out (sym c.has.ensures ∙ c.if-has.true)))

pub loop-word-preserved-then-has : goal.loop-word-preserved-then-has
loop-word-preserved-then-has c =
    let v = c.loop-word in
    let a = c.args in
    let turn = zip_turn a.contents.now a.members.now v.yielded c.into_iter-word-iterator.result v.word-iterator c.next.new.self c.next.result (search rules) (search rules) v.yielded_by _ c.in-Some.is c.next.ensures.steps in
    rw c.group_name.ensures (written a.node a.contents.now a.members.now turn a.out.now c.requires v.at v.out v.invariant v.auto.out (length-append v.yielded ((c.in-Some.word, c.in-Some.set) ∷ [])) (sym c.has.ensures ∙ c.if-has.true))

pub loop-word-preserved : goal.loop-word-preserved
loop-word-preserved c =
    let v = c.loop-word in
    let a = c.args in
    let turn = zip_turn a.contents.now a.members.now v.yielded c.into_iter-word-iterator.result v.word-iterator c.next.new.self c.next.result (search rules) (search rules) v.yielded_by _ c.in-Some.is c.next.ensures.steps in
    passed_by a.node a.contents.now a.members.now turn a.out.now c.requires v.at v.out v.invariant v.auto.out (length-append v.yielded ((c.in-Some.word, c.in-Some.set) ∷ [])) (sym c.has.ensures ∙ c.if-has.false)

pub returns : goal.returns
returns c =
    let v = c.loop-word in
    let a = c.args in
    let end = zip_end a.contents.now a.members.now v.yielded c.into_iter-word-iterator.result v.word-iterator c.next.new.self c.next.result (search rules) (search rules) v.yielded_by c.in-None.is c.next.ensures.steps in
    v.invariant.1 ∙ ap (λ (l : List ℕ). listed_over l a.out.now) (own-all a.node (length v.yielded) a.contents.now a.members.now (omega (arith, end)))
