-- `namespace_test::pass` meets its contract: each word that it goes past is plainly right. Assumes nothing.
use Rattle.std.proofs.Common.{◌≡◌, refl, sym, ◌∙◌, true, List, ℕ, ◌+◌, ◌-◌, ◌*◌, ◌/◌, ◌%◌, ◌≤◌, ◌<◌, length, get_or, arith}
use Rattle.std.specs.Prelude.{set}
use Rattle.entries.specs.Entries.{half_word}
use Rattle.namespace_test.specs.Slots.{slot}
use Rattle.namespace_test.specs.Passing.{Reached, is_plain, passed-still, reached-next}
use Rattle.namespace_test.proofs.pass.Goals as goal

-- what a turn knows of the k-th word when it goes past it: it is plainly right after one of the name last, seen' are the slots with its own stamped, and name is its name
record Plain (ws : List ℕ) (stamp k last : ℕ) (seen : List ℕ) (name : ℕ) (seen' : List ℕ) : Type 0 where
  right : is_plain (get_or ws k 0) last stamp seen ≡ true
  stamps : seen' ≡ set seen (slot (get_or ws k 0 % half_word)) stamp
  named : name ≡ get_or ws k 0 / half_word

module _ {ws : List ℕ} {count stamp i last : ℕ} {seen : List ℕ} (r : Reached ws count stamp i last seen) (used : count ≤ length ws) (turn : 4 ≤ count - i) (fit : (k : ℕ) → get_or ws k 0 < half_word * half_word) where
  one : {a : ℕ} {sa : List ℕ} → Plain ws stamp i last seen a sa → Reached ws count stamp (i + 1) a sa
  one p = reached-next r used (omega arith) (fit i) p.right _ p.stamps (i + 1) _ refl p.named

  two : {a b : ℕ} {sa sb : List ℕ} → Plain ws stamp i last seen a sa → Plain ws stamp (i + 1) a sa b sb → Reached ws count stamp (i + 2) b sb
  two p q = reached-next (one p) used (omega arith) (fit (i + 1)) q.right _ q.stamps (i + 2) _ (omega arith) q.named

  three : {a b c : ℕ} {sa sb sc : List ℕ} → Plain ws stamp i last seen a sa → Plain ws stamp (i + 1) a sa b sb → Plain ws stamp (i + 2) b sb c sc → Reached ws count stamp (i + 3) c sc
  three p q s = reached-next (two p q) used (omega arith) (fit (i + 2)) s.right _ s.stamps (i + 3) _ (omega arith) s.named

  four : {a b c d : ℕ} {sa sb sc sd : List ℕ} → Plain ws stamp i last seen a sa → Plain ws stamp (i + 1) a sa b sb → Plain ws stamp (i + 2) b sb c sc → Plain ws stamp (i + 3) c sc d sd
      → Reached ws count stamp (i + 4) d sd
  four p q s t = reached-next (three p q s) used (omega arith) (fit (i + 3)) t.right _ t.stamps (i + 4) _ (omega arith) t.named

pub returns-then-not-is_plain-2 : goal.returns-then-not-is_plain-2
returns-then-not-is_plain-2 c =
    let a : Plain c.args.ns.now c.args.stamp c.loop-i.i c.loop-i.last c.loop-i.seen c.name_of.result c.is_plain.new.seen = record { right = sym c.is_plain.ensures.value ∙ c.if-not-is_plain.false; stamps = c.is_plain.ensures.seen_after; named = c.name_of.ensures } in
    (omega arith, passed-still (one c.loop-i.invariant.1 (omega arith) (omega arith) (λ k. omega (arith, c.type_inv.ns k)) a).1 _ _ c.is_plain-in-loop-i.ensures.seen_after)

pub returns-then-not-is_plain-3 : goal.returns-then-not-is_plain-3
returns-then-not-is_plain-3 c =
    let a : Plain c.args.ns.now c.args.stamp c.loop-i.i c.loop-i.last c.loop-i.seen c.name_of.result c.is_plain.new.seen = record { right = sym c.is_plain.ensures.value ∙ c.if-not-is_plain.false; stamps = c.is_plain.ensures.seen_after; named = c.name_of.ensures } in
    let b : Plain c.args.ns.now c.args.stamp (c.loop-i.i + 1) c.name_of.result c.is_plain.new.seen c.name_of-in-loop-i.result c.is_plain-in-loop-i.new.seen = record { right = sym c.is_plain-in-loop-i.ensures.value ∙ c.if-not-is_plain-2.false; stamps = c.is_plain-in-loop-i.ensures.seen_after; named = c.name_of-in-loop-i.ensures } in
    (omega arith, passed-still (two c.loop-i.invariant.1 (omega arith) (omega arith) (λ k. omega (arith, c.type_inv.ns k)) a b).1 _ _ c.is_plain-in-loop-i-2.ensures.seen_after)

pub returns-then-not-is_plain-4 : goal.returns-then-not-is_plain-4
returns-then-not-is_plain-4 c =
    let a : Plain c.args.ns.now c.args.stamp c.loop-i.i c.loop-i.last c.loop-i.seen c.name_of.result c.is_plain.new.seen = record { right = sym c.is_plain.ensures.value ∙ c.if-not-is_plain.false; stamps = c.is_plain.ensures.seen_after; named = c.name_of.ensures } in
    let b : Plain c.args.ns.now c.args.stamp (c.loop-i.i + 1) c.name_of.result c.is_plain.new.seen c.name_of-in-loop-i.result c.is_plain-in-loop-i.new.seen = record { right = sym c.is_plain-in-loop-i.ensures.value ∙ c.if-not-is_plain-2.false; stamps = c.is_plain-in-loop-i.ensures.seen_after; named = c.name_of-in-loop-i.ensures } in
    let d : Plain c.args.ns.now c.args.stamp (c.loop-i.i + 2) c.name_of-in-loop-i.result c.is_plain-in-loop-i.new.seen c.name_of-in-loop-i-2.result c.is_plain-in-loop-i-2.new.seen = record { right = sym c.is_plain-in-loop-i-2.ensures.value ∙ c.if-not-is_plain-3.false; stamps = c.is_plain-in-loop-i-2.ensures.seen_after; named = c.name_of-in-loop-i-2.ensures } in
    (omega arith, passed-still (three c.loop-i.invariant.1 (omega arith) (omega arith) (λ k. omega (arith, c.type_inv.ns k)) a b d).1 _ _ c.is_plain-in-loop-i-3.ensures.seen_after)

pub loop-i-preserved : goal.loop-i-preserved
loop-i-preserved c =
    let a : Plain c.args.ns.now c.args.stamp c.loop-i.i c.loop-i.last c.loop-i.seen c.name_of.result c.is_plain.new.seen = record { right = sym c.is_plain.ensures.value ∙ c.if-not-is_plain.false; stamps = c.is_plain.ensures.seen_after; named = c.name_of.ensures } in
    let b : Plain c.args.ns.now c.args.stamp (c.loop-i.i + 1) c.name_of.result c.is_plain.new.seen c.name_of-in-loop-i.result c.is_plain-in-loop-i.new.seen = record { right = sym c.is_plain-in-loop-i.ensures.value ∙ c.if-not-is_plain-2.false; stamps = c.is_plain-in-loop-i.ensures.seen_after; named = c.name_of-in-loop-i.ensures } in
    let d : Plain c.args.ns.now c.args.stamp (c.loop-i.i + 2) c.name_of-in-loop-i.result c.is_plain-in-loop-i.new.seen c.name_of-in-loop-i-2.result c.is_plain-in-loop-i-2.new.seen = record { right = sym c.is_plain-in-loop-i-2.ensures.value ∙ c.if-not-is_plain-3.false; stamps = c.is_plain-in-loop-i-2.ensures.seen_after; named = c.name_of-in-loop-i-2.ensures } in
    let e : Plain c.args.ns.now c.args.stamp (c.loop-i.i + 3) c.name_of-in-loop-i-2.result c.is_plain-in-loop-i-2.new.seen c.name_of-last.result c.is_plain-in-loop-i-3.new.seen = record { right = sym c.is_plain-in-loop-i-3.ensures.value ∙ c.if-not-is_plain-4.false; stamps = c.is_plain-in-loop-i-3.ensures.seen_after; named = c.name_of-last.ensures } in
    (omega arith, four c.loop-i.invariant.1 (omega arith) (omega arith) (λ k. omega (arith, c.type_inv.ns k)) a b d e)
