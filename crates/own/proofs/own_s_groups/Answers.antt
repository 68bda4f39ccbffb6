-- `own::own_s_groups` meets its contract: refused by the caller, or by a run that is too short, or the list of its s_groups.
-- Assumes nothing.
use mathlib.Core.Path.{refl, ap, ◌∙◌}
use mathlib.Core.List.{List}
use native.Mathlib.Omega.{arith}
use Prim.Native.Nat.{ℕ}
use lib.ListN.{length}
use Rattle.semantics.specs.Steps.{own_list}
use Rattle.semantics.specs.Table.{state_of}
use Rattle.semantics.specs.Call.{listed_over}
use Rattle.returns.specs.Judged.{step-own-s-groups, refused, passed}
use Rattle.place.specs.Sound.{here, regular, base, groups_few}
use Rattle.returns.specs.Shown.{lists}
use Rattle.returns.specs.Listing.{listed_fits, listed-short}
use Rattle.own.proofs.OwnGroups.{members_many, own-laid, own-count}
use Rattle.returns.specs.Ends.{heard}
use Rattle.own.proofs.own_s_groups.Goals as goal

pub returns-in-Err : goal.returns-in-Err
unfolding state_of
returns-in-Err c =
    let t = c.args.t.words.now in
    rw c.refused.ensures (lists t c.args.t.fit c.args.out.now (refused (step-own-s-groups (length c.args.out.now) c.args.caller (here t)) (rw c.size.ensures.value at c.check_caller.ensures) c.in-Err.is))

pub own_length-words-requires : goal.own_length-words-requires
own_length-words-requires c =
    let t = c.args.t.words.now in
    rw c.members-members.ensures (omega (arith, groups_few t c.args.t.fit, members_many t c.args.t.fit))

pub returns-then-out-words : goal.returns-then-out-words
unfolding state_of
returns-then-out-words c =
    let t = c.args.t.words.now in
    let w = listed-short (own_list c.args.caller (here t).groups) c.args.out.now (omega (arith, c.if-out-words.true, (rw c.members-members.ensures at c.own_length-words.ensures), own-count t c.args.t.fit c.args.caller)) refl in
    rw c.refused-then-out-words.ensures (heard t c.args.t.fit c.args.out.now c.args.out.now (passed (step-own-s-groups (length c.args.out.now) c.args.caller (here t)) (rw c.size.ensures.value at c.check_caller.ensures) c.in_default.is) w.answer w.listed)

pub write_own-requires : goal.write_own-requires
write_own-requires c =
    let t = c.args.t.words.now in
    rw (c.contents.ensures, c.members-members.ensures) (omega (arith, c.if-out-words.false, (rw c.members-members.ensures at c.own_length-words.ensures), own-count t c.args.t.fit c.args.caller, ap length (own-laid (base t c.args.t.fit) (regular t c.args.t.fit) c.args.caller)))

pub returns : goal.returns
unfolding state_of
returns c =
    let t = c.args.t.words.now in
    let o = c.write_own.new.out in
    let many = (rw c.members-members.ensures at c.own_length-words.ensures) ∙ own-count t c.args.t.fit c.args.caller in
    rw c.done.ensures (let w = listed_fits (own_list c.args.caller (here t).groups) c.args.out.now (omega (arith, many, c.if-out-words.false)) many
    ((rw (c.contents.ensures, c.members-members.ensures) at c.write_own.ensures) ∙ ap (λ (l : List ℕ). listed_over l c.args.out.now) (own-laid (base t c.args.t.fit) (regular t c.args.t.fit) c.args.caller)) in
    heard t c.args.t.fit c.args.out.now o (passed (step-own-s-groups (length c.args.out.now) c.args.caller (here t)) (rw c.size.ensures.value at c.check_caller.ensures) c.in_default.is) w.answer w.listed)
