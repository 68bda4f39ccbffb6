-- "For some number below n": what gives it, what it gives, and when a test is it. Assumes nothing.
use Rattle.std.specs.Prelude.{◌≡◌, Bool, true, false, not, ◌&&◌, ℕ, zero, suc, ◌^◌, ◌≤◌, ◌<◌, ltb}
use Rattle.std.proofs.Common.{sym, ap, ◌∙◌, ⊎_elim, arith, eqb-true, ltb-false, leb-true, le-ltb, le-leb}
use Rattle.std.proofs.lemmas.Bool.{false≢true, eqb-false, not-true}
use Rattle.std.proofs.Math.Bool.{or-true, and-eq-true_iff}
use Rattle.nodes.specs.Sets.{node_limit, has, empty, beyond}
use Rattle.nodes.specs.Bools.{by_test, by_lt, by_eq, test-ext}
use Rattle.nodes.proofs.SetLaws.{has-none, has_above, has-below, below-pow, has-ext}
use Rattle.semantics.specs.Truth.{or_cases, unless}
use Rattle.published.specs.Published.{Set, any}

-- one that is in the set
pub any-hit : (n : ℕ) (a : Set) (i : ℕ) → i < n → a i ≡ true → any n a ≡ true
unfolding any
any-hit zero a i h e = absurd (omega arith)
any-hit (suc n) a i h e =
    ⊎_elim
    (λ (p : i ≡ n). rw (← p, e))
    (λ (p : i ≡ n → ⊥). rw (any-hit n a i (omega arith) e) (or-true (a n)))
    (by_eq i n)

-- what follows from each that is in the set
pub any_case : {A : Type 0} (n : ℕ) (a : Set) → any n a ≡ true → ((i : ℕ) → i < n → a i ≡ true → A) → A
unfolding any
any_case zero a h k = absurd (false≢true h)
any_case (suc n) a h k = or_cases (a n) (any n a) h (k n (omega arith)) (λ q. any_case n a q (λ i l. k i (omega arith)))

-- none is in the set
pub any_none : (n : ℕ) (a : Set) → any n a ≡ false → (i : ℕ) → i < n → a i ≡ false
any_none n a h i l = unless (a i) (λ e. false≢true (sym h ∙ any-hit n a i l e))

-- a test is "some" where it follows from one, and gives one
pub any-is : (n : ℕ) (a : Set) (x : Bool) → ((i : ℕ) → i < n → a i ≡ true → x ≡ true) → (x ≡ true → any n a ≡ true) → any n a ≡ x
any-is n a x p q = test-ext (any n a) x (λ e. any_case n a e p) q

pub any-no : (n : ℕ) (a : Set) → ((i : ℕ) → a i ≡ false) → any n a ≡ false
any-no n a h = unless (any n a) (λ e. any_case n a e (λ i l k. false≢true (sym (h i) ∙ k)))

-- a word has a node where it is not zero
pub any-has : (m : ℕ) → m < 2 ^ node_limit → any node_limit (has m) ≡ not (empty m)
any-has m small = any-is node_limit (has m) (not (empty m))
    (λ i l h. ap not (unless (empty m) (λ e. false≢true (sym (has-none i) ∙ ap (λ (x : ℕ). has x i) (sym (eqb-true m 0 e)) ∙ h))))
    (λ h.
    ⊎_elim
    (λ (e : any node_limit (has m) ≡ true). e)
    (λ (e : any node_limit (has m) ≡ false).
    absurd (eqb-false m 0 (not-true (empty m) h) (has-ext m 0 (λ i.
    ⊎_elim (λ (l : i < node_limit). any_none node_limit (has m) e i l) (λ (l : node_limit ≤ i). has_above m node_limit i small l) (by_lt i node_limit)
    ∙ sym (has-none i)))))
    (by_test (any node_limit (has m))))

-- a word has a node from n on where it is beyond n
pub any-beyond : (w n : ℕ) → w < 2 ^ node_limit → any node_limit (λ i. has w i && not (ltb i n)) ≡ beyond w n
any-beyond w n small = any-is node_limit _ (beyond w n)
    (λ i l h.
    let p = (and-eq-true_iff (has w i) _).0 h in
    ⊎_elim
    (λ (k : w < 2 ^ n). absurd (omega (arith, has-below w n i k p.0, ltb-false i n (not-true (ltb i n) p.1))))
    (λ (k : 2 ^ n ≤ w). le-leb (2 ^ n) w k)
    (by_lt w (2 ^ n)))
    (λ h.
    ⊎_elim
    (λ (e : any node_limit (λ i. has w i && not (ltb i n)) ≡ true). e)
    (λ (e : any node_limit (λ i. has w i && not (ltb i n)) ≡ false).
    absurd (omega (
      arith,
      leb-true (2 ^ n) w h,
      below-pow w n (λ i m. ⊎_elim
          (λ (k : i < n). k)
          (λ (k : n ≤ i). absurd (false≢true (sym (any_none node_limit _ e i (has-below w node_limit i small m)) ∙ rw (m, le-ltb i n k))))
          (by_lt i n)),
    )))
    (by_test (any node_limit (λ i. has w i && not (ltb i n)))))
