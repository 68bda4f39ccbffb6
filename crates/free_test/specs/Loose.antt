-- The test of free normal groups, where only the free normal nodes are asked for the lowest nodes of their groups. Assumes nothing.
use Rattle.std.specs.Prelude.{◌≡◌, true, false, ◌&&◌, List, ℕ, ◌≤◌, ◌<◌, length, drop}
use Rattle.std.proofs.Common.{sym, ap, ◌∙◌, ⊎_elim, true≢false, arith, eq-eqb, eqb-true}
use Rattle.std.proofs.Math.ListN.{get_or-eq_default}
use Rattle.nodes.specs.Sets.{node_limit, has, lowest, word_at}
use Rattle.nodes.specs.Bools.{by_lt, by_test, test-ext}
use Rattle.nodes.proofs.SetLaws.{has-none}
use Rattle.nodes.proofs.LowestNode.{lowest-none}
use Rattle.semantics.specs.Soundness.{In}
use Rattle.semantics.specs.Test.{freely}
use Rattle.free_test.specs.WireTests.{all_of, all_zero, own_free, is_lowest, own_lowest}
use Rattle.free_test.specs.Below.{tests, eqb-iff, all_zero-iff, tail-iff}

-- a node that is not free has no group by its connections
pub freely-none : (loose i w : ℕ) → (In i loose → ⊥) → freely loose i w ≡ 0
freely-none loose i w none = ⊎_elim (λ m. absurd (none m)) (λ m. rw m) (by_test (has loose i))

module _ (free : List ℕ) (long : length free ≡ node_limit) where
  -- a word without a node is that of its lowest node, which is past the run
  pub none-lowest : (i : ℕ) → word_at free i ≡ 0 → word_at free (lowest (word_at free i)) ≡ word_at free i
  none-lowest i e =
      ap (λ (w : ℕ). word_at free (lowest w)) e ∙ ap (word_at free) lowest-none ∙ get_or-eq_default free 0 (omega arith) ∙ sym e

  -- so that it passes
  none_passes : (i : ℕ) → word_at free i ≡ 0 → is_lowest free i ≡ true
  none_passes i e = eq-eqb (word_at free (lowest (word_at free i))) (word_at free i) (none-lowest i e)

  -- a node that is not free normal has no word, so that only those that are need to be asked
  pub loose-lowest : (links : List ℕ) (loose n : ℕ) → n ≤ node_limit
      → (own_free links free loose n && all_zero (drop n free) && all_of loose (is_lowest free))
      ≡ (own_free links free loose n && all_zero (drop n free) && own_lowest free n)
  loose-lowest links loose n few =
      test-ext (own_free links free loose n && all_zero (drop n free) && all_of loose (is_lowest free))
      (own_free links free loose n && all_zero (drop n free) && own_lowest free n)
      (λ e. let h = simp (tests, tail-iff) at e in
      let none : (i : ℕ) → i < n → has loose i ≡ false → word_at free i ≡ 0 = λ i l m.
      eqb-true (word_at free i) (freely loose i (word_at links i)) (h.0.0 i l) ∙ freely-none loose i (word_at links i) (λ q. true≢false (sym q ∙ m)) in
      simp (tests, tail-iff) (h.0, λ i l. ⊎_elim (λ m. h.1 i (omega arith) m) (λ m. none_passes i (none i l m)) (by_test (has loose i))))
      (λ e. let h = simp (tests, tail-iff) at e in
      simp (tests, tail-iff) (h.0, λ i l m. ⊎_elim (λ on. h.1 i on) (λ off. none_passes i (h.0.1 i off (omega arith))) (by_lt i n)))

  -- without a free normal node every word is zero
  pub none-loose : (links : List ℕ) (n : ℕ) → n ≤ node_limit
      → all_zero free ≡ (own_free links free 0 n && all_zero (drop n free) && own_lowest free n)
  none-loose links n few =
      test-ext (all_zero free) (own_free links free 0 n && all_zero (drop n free) && own_lowest free n)
      (λ e. let zero : (i : ℕ) → i < n → word_at free i ≡ 0 = λ i l. (all_zero-iff free).0 e i (omega arith) in
      simp (tests, eqb-iff, tail-iff) (
        (λ i l. zero i l ∙ sym (due i), λ i l m. (all_zero-iff free).0 e i m),
        λ i l. none-lowest i (zero i l),
      ))
      (λ e. let h = simp (tests, eqb-iff, tail-iff) at e in
      (all_zero-iff free).1 (λ i l. ⊎_elim (λ on. h.0.0 i on ∙ due i) (λ off. h.0.1 i off l) (by_lt i n)))
    where
      due : (i : ℕ) → freely 0 i (word_at links i) ≡ 0
      due i = freely-none 0 i (word_at links i) (λ q. true≢false (sym q ∙ has-none i))
