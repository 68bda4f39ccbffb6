-- How many nodes a set has. Assumes nothing.
use Rattle.std.specs.Prelude.{◌≡◌, refl, true, false, ℕ, zero, suc, ◌+◌, ◌*◌, ◌/◌, ◌%◌, ◌^◌, ◌≤◌, ◌<◌}
use Rattle.std.proofs.Common.{sym, ap, ◌∙◌, pow-suc, arith, pow_pos, eqb-true, lt-ltb}
use Rattle.std.proofs.Math.Arith.{lt-one}
use Rattle.std.specs.Int.Count.{ones, ones_in, ones_step, ones-ones}
use Rattle.std.proofs.lemmas.Nat.{ones_cat, ones-le}
use Rattle.nodes.specs.Sets.{node_limit, bit, has, union, inter, diff, single, roster, with_node, without_node, subset, count, lowest, rest}
use Rattle.nodes.specs.Digits.{bit-zero, bit_suc, bit-union, bit-inter, bit-diff, lt-pow}
use Rattle.nodes.proofs.SetLaws.{union-lt, inter-le-l, diff-le, inter_comm, inter-single-in, inter-single-out}
use Rattle.nodes.proofs.LowestNode.{lowest-has}

-- the members below n, counted one by one
unfoldable pub tally : ℕ → ℕ → ℕ
tally zero w = 0
tally (suc n) w = tally n w + bit w n

tally-low : (n w : ℕ) → tally (suc n) w ≡ w % 2 + tally n (w / 2)
unfolding tally
tally-low zero w = omega (arith, bit-zero w)
tally-low (suc n) w = omega (arith, tally-low n w, bit_suc w n)

-- the count is the tally, at a width that holds the set
pub count_tally : (n w : ℕ) → w < 2 ^ n → count w ≡ tally n w
unfolding tally ones ones_in
count_tally zero w h = ap ones (lt-one h)
count_tally (suc n) w h = ones_step w ∙ ap (λ (x : ℕ). w % 2 + x) (count_tally n (w / 2) (omega (arith, pow-suc 2 n))) ∙ sym (tally-low n w)

tally-union : (n a b : ℕ) → tally n (union a b) + tally n (inter a b) ≡ tally n a + tally n b
unfolding tally
tally-union zero a b = refl
tally-union (suc n) a b = omega (arith, tally-union n a b, bit-union a b n, bit-inter a b n)

tally-diff : (n a b : ℕ) → tally n (diff a b) + tally n (inter a b) ≡ tally n a
unfolding tally
tally-diff zero a b = refl
tally-diff (suc n) a b = omega (arith, tally-diff n a b, bit-diff a b n, bit-inter a b n)

module _ (a b : ℕ) where
  -- a width that holds both
  wide : ℕ
  wide = a + b

  wide-l : a < 2 ^ wide
  unfolding wide
  wide-l = omega (arith, lt-pow (a + b))

  wide-r : b < 2 ^ wide
  unfolding wide
  wide-r = omega (arith, lt-pow (a + b))

  pub count-union : count (union a b) + count (inter a b) ≡ count a + count b
  count-union =
      omega (
        arith,
        tally-union wide a b,
        count_tally wide a wide-l,
        count_tally wide b wide-r,
        count_tally wide (union a b) (union-lt wide a b wide-l wide-r),
        count_tally wide (inter a b) (omega (arith, wide-l, inter-le-l a b)),
      )

  pub count-diff : count (diff a b) + count (inter a b) ≡ count a
  count-diff =
      omega (
        arith,
        tally-diff wide a b,
        count_tally wide a wide-l,
        count_tally wide (diff a b) (omega (arith, wide-l, diff-le a b)),
        count_tally wide (inter a b) (omega (arith, wide-l, inter-le-l a b)),
      )

-- a subset has no more nodes
pub count-sub : (a b : ℕ) → subset a b ≡ true → count a ≤ count b
count-sub a b s =
    let e : inter b a ≡ a = inter_comm b a ∙ eqb-true (inter a b) a s in
    omega (arith, count-diff b a, ap count e)

pub count_none : count 0 ≡ 0
unfolding tally
count_none = count_tally 0 0 (omega arith)

pub count-single : (i : ℕ) → count (single i) ≡ 1
unfolding ones ones_in
count-single i =
    let e : 2 ^ i ≡ 1 * 2 ^ i + 0 = omega arith in
    ap ones e ∙ ones_cat i 1 0 (pow_pos i)

pub count-roster : (n : ℕ) → count (roster n) ≡ n
count-roster n = ones-ones n

-- of n nodes there are at most n
pub count-le : (n w : ℕ) → w < 2 ^ n → count w ≤ n
count-le n w h = ones-le n w h

-- one node more, and one less
pub count-with : (w i : ℕ) → i < node_limit → has w i ≡ false → count (with_node w i) ≡ count w + 1
count-with w i l m =
    let e = inter-single-out w i m in
    rw (lt-ltb i node_limit l) (omega (arith, count-union w (single i), ap count e, count-single i, count_none))

pub count-without : (w i : ℕ) → has w i ≡ true → count (without_node w i) + 1 ≡ count w
count-without w i m =
    let e = inter-single-in w i m in
    omega (arith, count-diff w (single i), ap count e, count-single i)

pub count-rest : (w : ℕ) → 0 < w → w < 2 ^ node_limit → count (rest w) + 1 ≡ count w
count-rest w p h = count-without w (lowest w) (lowest-has w p h)
