-- `tokens::listed` meets its contract: the test of the next word decides, or those behind it. Assumes nothing.
use Rattle.std.proofs.Common.{◌≡◌, sym, ◌∙◌, add-one, Bool, true, false, List, ℕ, ◌+◌, ◌<◌, length, get_or, drop, drop-cons, drop_of_length-le}
use Rattle.std.specs.Bool.{Decides}
use Rattle.tokens.specs.Reserved.{among, reserved_words, is_reserved}
use Rattle.tokens.specs.Words.{same_by}
use Rattle.tokens.specs.Listed.{among-long}
use Rattle.tokens.proofs.listed.Goals as goal

-- the test of the word at i decides, or those behind it
next_word : (ws : List (List ℕ)) (w x : List ℕ) (i : ℕ) (r : Bool) → i < length ws → x ≡ get_or ws i x → Decides r (w ≡ x)
    → (r ≡ true → among (drop i ws) w ≡ true) × (r ≡ false → among (drop i ws) w ≡ among (drop (i + 1) ws) w)
unfolding among
next_word ws w x i r l is d =
    let s = same_by w x r d.0 d.1 in
    (λ h. rw (drop-cons ws i x, ← is, s, h), λ h. rw (add-one, drop-cons ws i x, ← is, s, h))

pub loop-w-init : goal.loop-w-init
unfolding is_reserved
loop-w-init g c = rw c.requires (among-long c.args.word.now reserved_words)

pub returns-then-same : goal.returns-then-same
returns-then-same g c =
    sym (c.loop-w.invariant ∙ (next_word _ _ _ _ _ c.loop-w-test.true c.w-item.is c.same.ensures).0 c.if-same.true)

pub loop-w-preserved : goal.loop-w-preserved
loop-w-preserved g c = c.loop-w.invariant ∙ (next_word _ _ _ _ _ c.loop-w-test.true c.w-item.is c.same.ensures).1 c.if-same.false

pub returns : goal.returns
unfolding among
returns g c = sym (rw (drop_of_length-le c.args.words.now c.loop-w-test.false) at c.loop-w.invariant)
