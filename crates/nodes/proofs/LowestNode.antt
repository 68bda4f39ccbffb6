-- The lowest member of a set, and the set without it. Assumes nothing.
use Rattle.std.specs.Prelude.{◌≡◌, refl, true, false, ℕ, zero, suc, ◌-◌, ◌/◌, ◌%◌, ◌^◌, ◌≤◌, ◌<◌, eqb}
use Rattle.std.proofs.Common.{sym, ap, ◌∙◌, ⊎_elim, true≢false, pow-suc, arith, pow_pos, eq-eqb}
use Rattle.std.specs.Int.Bits.{and_step, and_self}
use Rattle.std.specs.Int.Count.{count_trailing_zeros, under, trailing_of_zero}
use Rattle.nodes.specs.Sets.{node_limit, bit, has, inter, diff, single, lowest, rest}
use Rattle.nodes.specs.Bools.{by_lt}
use Rattle.nodes.specs.Digits.{bit-zero, bit_suc}
use Rattle.nodes.proofs.SetLaws.{without-member}

-- ---- the trailing zeros of a word of k digits

trailing-none : (k w j : ℕ) → j < count_trailing_zeros k w → bit w j ≡ 0
unfolding count_trailing_zeros
trailing-none zero w j h = absurd (omega arith)
trailing-none (suc k) w j h = go (λ i l. trailing-none k (w / 2) i l) (w % 2) refl j h
  where
    go : ((j : ℕ) → j < count_trailing_zeros k (w / 2) → bit (w / 2) j ≡ 0) → (r : ℕ) → w % 2 ≡ r
        → (j : ℕ) → j < under r (count_trailing_zeros k (w / 2)) → bit w j ≡ 0
    go ih zero e zero l = bit-zero w ∙ e
    go ih zero e (suc j) l = bit_suc w j ∙ ih j (omega arith)
    go ih (suc r) e j l = absurd (omega arith)

trailing-some : (k w : ℕ) → count_trailing_zeros k w < k → bit w (count_trailing_zeros k w) ≡ 1
unfolding count_trailing_zeros
trailing-some zero w h = absurd (omega arith)
trailing-some (suc k) w h = go (trailing-some k (w / 2)) (w % 2) refl h
  where
    go : (count_trailing_zeros k (w / 2) < k → bit (w / 2) (count_trailing_zeros k (w / 2)) ≡ 1)
        → (r : ℕ) → w % 2 ≡ r → under r (count_trailing_zeros k (w / 2)) < suc k → bit w (under r (count_trailing_zeros k (w / 2))) ≡ 1
    go ih zero e l = bit_suc w (count_trailing_zeros k (w / 2)) ∙ ih (omega arith)
    go ih (suc r) e l = bit-zero w ∙ omega arith

trailing_lt : (k w : ℕ) → 0 < w → w < 2 ^ k → count_trailing_zeros k w < k
unfolding count_trailing_zeros
trailing_lt zero w p h = absurd (omega arith)
trailing_lt (suc k) w p h = go (λ q. trailing_lt k (w / 2) q (omega (arith, pow-suc 2 k))) (w % 2) refl
  where
    go : (0 < w / 2 → count_trailing_zeros k (w / 2) < k) → (r : ℕ) → w % 2 ≡ r → under r (count_trailing_zeros k (w / 2)) < suc k
    go ih zero e = omega (arith, ih (omega arith))
    go ih (suc r) e = omega arith

trailing-pred : (k w : ℕ) → 0 < w → w < 2 ^ k → inter w (w - 1) ≡ w - single (count_trailing_zeros k w)
unfolding count_trailing_zeros inter
trailing-pred zero w p h = absurd (omega arith)
trailing-pred (suc k) w p h = go (λ q. trailing-pred k (w / 2) q (omega (arith, pow-suc 2 k))) (w % 2) refl
  where
    go : (0 < w / 2 → inter (w / 2) (w / 2 - 1) ≡ w / 2 - single (count_trailing_zeros k (w / 2)))
        → (r : ℕ) → w % 2 ≡ r → inter w (w - 1) ≡ w - single (under r (count_trailing_zeros k (w / 2)))
    go ih zero e =
        let half : (w - 1) / 2 ≡ w / 2 - 1 = omega arith in
        omega (arith, and_step w (w - 1), ap (inter (w / 2)) half, ih (omega arith), pow-suc 2 (count_trailing_zeros k (w / 2)))
    go ih (suc r) e =
        let half : (w - 1) / 2 ≡ w / 2 = omega arith in
        omega (arith, and_step w (w - 1), ap (inter (w / 2)) half, and_self (w / 2))

-- ---- the lowest member

pub lowest-none : lowest 0 ≡ node_limit
lowest-none = trailing_of_zero node_limit

pub lowest-below : (w j : ℕ) → j < lowest w → has w j ≡ false
lowest-below w j l = ap (λ (x : ℕ). eqb x 1) (trailing-none node_limit w j l)

-- a set that has a member, of at most 64 nodes
module _ (w : ℕ) (some : 0 < w) (fits : w < 2 ^ node_limit) where
  pub lowest-lt : lowest w < node_limit
  lowest-lt = trailing_lt node_limit w some fits

  pub lowest-has : has w (lowest w) ≡ true
  lowest-has = eq-eqb (bit w (lowest w)) 1 (trailing-some node_limit w lowest-lt)

  pub rest-less : rest w < w
  rest-less = omega (arith, without-member w (lowest w) lowest-has, pow_pos (lowest w))

-- no member is below it
pub lowest-le : (w i : ℕ) → has w i ≡ true → lowest w ≤ i
lowest-le w i m = ⊎_elim (λ l. absurd (true≢false (sym m ∙ lowest-below w i l))) (λ l. l) (by_lt i (lowest w))

-- a member with none below it is the lowest
pub lowest-unique : (w i : ℕ) → i < node_limit → has w i ≡ true → ((j : ℕ) → j < i → has w j ≡ false) → lowest w ≡ i
lowest-unique w i l m none =
    ⊎_elim (λ lt. absurd (true≢false (sym (eq-eqb (bit w (lowest w)) 1 (trailing-some node_limit w (omega arith))) ∙ none (lowest w) lt)))
    (λ ge. omega (arith, lowest-le w i m))
    (by_lt (lowest w) i)

-- ---- without it

-- `w & (w - 1)` takes the lowest member out
pub inter-pred : (w : ℕ) → w < 2 ^ node_limit → inter w (w - 1) ≡ rest w
unfolding inter diff
inter-pred zero h = refl
inter-pred (suc w) h =
    trailing-pred node_limit (suc w) (omega arith) h
    ∙ sym (without-member (suc w) (lowest (suc w)) (lowest-has (suc w) (omega arith) h))
