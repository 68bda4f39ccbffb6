-- `text::numeral` meets its contract: the digits of s spell what those that are left spell behind v.
-- Assumes nothing.
use borrow.Author.Tests.{le-leb, lt-leb, lt-ltb, le-ltb}
use mathlib.Core.Path.{◌≡◌, sym, ap, ◌∙◌}
use mathlib.Core.Bool.{true, false}
use mathlib.Core.Logic.{◌⊎◌, inl, inr}
use mathlib.Core.List.{List}
use Prim.Native.Nat.{ℕ, ◌≤◌, ◌<◌, ◌-◌, ◌+◌, ◌*◌}
use native.Mathlib.Numerals.{add-one}
use native.Mathlib.Omega.{arith}
use lib.ListN.{length, get_or, drop, drop_of_length-le}
use lib.Seq.{drop-cons}
use Rattle.std.specs.Prelude.{Option, Some, None}
use Rattle.text.specs.Numbers.{digit_0, digit_9, word_limit, plain, numeral}
use Rattle.text.specs.DecimalDigits.{more, more_of, digits_from, bad-stays, numeral-by-digits}
use Rattle.text.proofs.numeral.Goals as goal

-- what is spelled from i on: one digit, and then what is spelled from i + 1 on
turn : (s : List ℕ) (v i : ℕ) → i < length s → digits_from (Some v) (drop i s) ≡ digits_from (more v (get_or s i 0)) (drop (i + 1) s)
unfolding digits_from more_of
turn s v i h = rw (drop-cons s i 0, add-one)

-- the byte at i ends it
stops : (s : List ℕ) (v i : ℕ) → i < length s → numeral s ≡ digits_from (Some v) (drop i s) → more v (get_or s i 0) ≡ None → None ≡ numeral s
stops s v i h inv e = sym (inv ∙ turn s v i h ∙ ap (λ (n : Option ℕ). digits_from n (drop (i + 1) s)) e ∙ bad-stays (drop (i + 1) s))

-- the byte at i is one digit more
goes_on : (s : List ℕ) (v i w : ℕ) → i < length s → numeral s ≡ digits_from (Some v) (drop i s) → more v (get_or s i 0) ≡ Some w → numeral s ≡ digits_from (Some w) (drop (i + 1) s)
goes_on s v i w h inv e = inv ∙ turn s v i h ∙ ap (λ (n : Option ℕ). digits_from n (drop (i + 1) s)) e

no_digit : (v b : ℕ) → (b < digit_0) ⊎ (digit_9 < b) → more v b ≡ None
unfolding more
no_digit v b (inl h) = simp (lt-leb digit_0 b h)
no_digit v b (inr h) = simp (le-leb digit_0 b (omega arith), lt-leb b digit_9 h)

too_wide : (v b : ℕ) → digit_0 ≤ b → b ≤ digit_9 → word_limit ≤ v * 10 + (b - digit_0) → more v b ≡ None
unfolding more
too_wide v b l h w = simp (le-leb digit_0 b l, le-leb b digit_9 h, le-ltb _ _ w)

fits : (v b w : ℕ) → digit_0 ≤ b → b ≤ digit_9 → w < word_limit → w ≡ v * 10 + (b - digit_0) → more v b ≡ Some w
unfolding more
fits v b w l h m e = rw (e, le-leb digit_0 b l, le-leb b digit_9 h, lt-ltb _ _ (rw e at m))

pub returns-then-not-plain : goal.returns-then-not-plain
returns-then-not-plain c = let e : plain c.args.s.now ≡ false = cc in sym (numeral-by-digits c.args.s.now ∙ rw e)

pub loop-b-init : goal.loop-b-init
loop-b-init c = let e : plain c.args.s.now ≡ true = cc in numeral-by-digits c.args.s.now ∙ rw e

pub returns-then-not-is_ascii_digit : goal.returns-then-not-is_ascii_digit
returns-then-not-is_ascii_digit c = stops _ _ _ c.loop-b-test.true c.loop-b.invariant (no_digit _ _ c.if-not-is_ascii_digit.ensures.cases)

pub returns-in_err-tens : goal.returns-in_err-tens
returns-in_err-tens c =
    let d = c.if-not-is_ascii_digit.ensures.cases in
    c.from_residual.ensures ∙ stops _ _ _ c.loop-b-test.true c.loop-b.invariant (too_wide _ _ (omega arith) (omega arith) (omega (arith, c.in_err-tens.ensures)))

pub returns-in_err-v : goal.returns-in_err-v
returns-in_err-v c =
    let d = c.if-not-is_ascii_digit.ensures.cases in
    c.from_residual-in_err-v.ensures ∙ stops _ _ _ c.loop-b-test.true c.loop-b.invariant (too_wide _ _ (omega arith) (omega arith) (omega (arith, c.in_ok-tens.ensures, c.in_err-v.ensures)))

pub loop-b-preserved : goal.loop-b-preserved
loop-b-preserved c =
    let d = c.if-not-is_ascii_digit.ensures.cases in
    let w = c.in_ok-v.ensures in
    goes_on _ _ _ _ c.loop-b-test.true c.loop-b.invariant (fits _ _ _ (omega arith) (omega arith) (omega arith) (omega (arith, c.in_ok-tens.ensures, w.1)))

pub returns : goal.returns
unfolding digits_from
returns c = sym (c.loop-b.invariant ∙ ap (digits_from (Some c.loop-b.v)) (drop_of_length-le _ c.loop-b-test.false))
