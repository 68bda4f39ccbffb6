-- What the operations of a word of 64 digits make of sets. Assumes nothing.
use Rattle.std.specs.Prelude.{◌≡◌, false, not, ℕ, ◌-◌, ◌*◌, ◌/◌, ◌%◌, ◌^◌, ◌≤◌, ◌<◌, eqb}
use Rattle.std.proofs.Common.{sym, ap, ◌∙◌, ⊎_elim, one-mul, mod-eq_of_lt, mod-lt, lt_of_lt_of_le, arith, pow_pos, pow_mono, eqb-true, ne_eqb, lt-ltb, le-leb}
use Rattle.std.proofs.Math.Nat.{div-eq_of_lt}
use Rattle.std.proofs.Math.Pow.{pow-lt, split}
use Rattle.std.proofs.lemmas.Bool.{lt-leb}
use Rattle.nodes.specs.Sets.{node_limit, inter, diff, single, roster, beyond}
use Rattle.nodes.specs.Bools.{by_lt}
use Rattle.nodes.proofs.SetLaws.{inter_comm, inter-diff, subset-roster}

-- `1 << i`
pub shl_one : (i : ℕ) → i < node_limit → (1 * 2 ^ i) % 2 ^ node_limit ≡ single i
shl_one i h = ap (λ (x : ℕ). x % 2 ^ node_limit) (one-mul (2 ^ i)) ∙ mod-eq_of_lt (pow-lt h)

-- a set below 2^n is among the first n nodes
in-roster : (n w : ℕ) → w < 2 ^ n → inter w (roster n) ≡ w
in-roster n w h = eqb-true (inter w (roster n)) w (subset-roster w n ∙ lt-ltb w (2 ^ n) h)

-- `a & !b`
pub inter-not : (a b : ℕ) → a < 2 ^ node_limit → b < 2 ^ node_limit → inter a (roster node_limit - b) ≡ diff a b
unfolding diff inter
inter-not a b ha hb =
    let all = roster node_limit in
    let e : all - b ≡ diff all b = ap (λ (x : ℕ). all - x) (sym (inter_comm all b ∙ in-roster node_limit b hb)) in
    ap (inter a) e ∙ inter-diff a all b ∙ ap (λ (x : ℕ). diff x b) (in-roster node_limit a ha)

-- `w >> n != 0`
pub shr-beyond : (w n : ℕ) → not (eqb (w / 2 ^ n) 0) ≡ beyond w n
shr-beyond w n =
    ⊎_elim (λ l. rw (div-eq_of_lt l, lt-leb (2 ^ n) w l))
    (λ l. rw (ne_eqb (w / 2 ^ n) 0 (λ e. none l e), le-leb (2 ^ n) w l))
    (by_lt w (2 ^ n))
  where
    none : 2 ^ n ≤ w → w / 2 ^ n ≡ 0 → ⊥
    none l e = omega (arith, split w n, ap (λ (x : ℕ). x * 2 ^ n) e, mod-lt w (pow_pos n))

-- no node of a word is past 63
pub beyond-limit : (w n : ℕ) → w < 2 ^ node_limit → node_limit ≤ n → beyond w n ≡ false
beyond-limit w n h l = lt-leb (2 ^ n) w (lt_of_lt_of_le h (pow_mono l))
