-- The state of opening is regular. Assumes nothing.
use Rattle.std.specs.Prelude.{◌≡◌, refl, Bool, not, ◌&&◌, ◌||◌, [], ℕ, ◌^◌, ◌≤◌, ◌<◌, ltb, get_or, replicate}
use Rattle.std.proofs.Common.{sym, ◌∙◌, ⊎_elim, true≢false, arith, eqb-true, le-ltb}
use Rattle.std.proofs.Math.Path.{ap}
use Rattle.std.proofs.Math.Bool.{true, false, cond, and-true, and-eq-true_iff}
use Rattle.std.proofs.lemmas.Bool.{false≢true}
use Rattle.std.proofs.Math.Dec.{eqb}
use Rattle.std.proofs.Math.ListN.{length-replicate, get_or-eq_default}
use Rattle.std.proofs.lemmas.List.{get_or-replicate}
use Rattle.nodes.specs.Sets.{node_limit, has, single, union_all}
use Rattle.nodes.specs.Bools.{by_lt}
use Rattle.nodes.proofs.SetLaws.{has-none, has-single}
use Rattle.semantics.specs.State.{all_members}
use Rattle.semantics.specs.Steps.{opened}
use Rattle.semantics.specs.Regular.{Wired, Regular, loose}
use Rattle.semantics.specs.Members.{at-mapi}
use Rattle.semantics.specs.FreeGroupsOfNodes.{has-free_nodes}

getD-zeros : (n i : ℕ) → ◌≡◌ {A = ℕ} (get_or (replicate n 0) i 0) 0
getD-zeros n i =
    ⊎_elim (λ (h : i < n). get_or-replicate n i 0 0 h) (λ (h : n ≤ i). get_or-eq_default (replicate n 0) 0 (omega (arith, length-replicate {A = ℕ} n 0))) (by_lt i n)

-- no node is in an s_group
none_in : (i : ℕ) → has (all_members []) i ≡ false
unfolding union_all
none_in i = has-none i

module _ (N hidden : ℕ) (low : 1 ≤ N) (high : N ≤ node_limit) (in-it : hidden < 2 ^ N) where
  abbrev normal : ℕ → Bool
  normal i = ltb i N && not (has hidden i)

  no-link : (i j : ℕ) → has (get_or (opened N hidden).links i 0) j ≡ false
  unfolding opened
  no-link i j = ap (λ (w : ℕ). has w j) (getD-zeros node_limit i) ∙ has-none j

  has-own : (i j : ℕ) → has (get_or (opened N hidden).free i 0) j ≡ normal i && eqb i j
  unfolding opened
  has-own i j =
      ap (λ (w : ℕ). has w j)
      (at-mapi (λ k x. cond (normal k) (single k) 0) (replicate node_limit 0) (λ k h. rw (le-ltb k N (omega (arith, length-replicate {A = ℕ} node_limit 0)))) i)
      ∙ go (normal i)
    where
      go : (x : Bool) → has (cond x (single i) 0) j ≡ x && eqb i j
      go true = has-single i j
      go false = has-none j

  is-loose : (i : ℕ) → loose (opened N hidden) i ≡ normal i
  unfolding opened
  is-loose i = has-free_nodes (opened N hidden) i ∙ rw (none_in i) (and-true (normal i))

  wires : Wired (loose (opened N hidden)) (opened N hidden).links (opened N hidden).free
  wires =
      record {
        both_ways = λ i j. no-link i j ∙ sym (no-link j i);
        no_self = λ i. no-link i i;
        frees = λ i j.
            has-own i j ∙ alone (normal i) (normal j) (eqb i j) (λ e. ap normal (eqb-true i j e))
            ∙ sym (rw (is-loose i, is-loose j, no-link i j));
        classes = λ i j h. ap (λ (k : ℕ). get_or (opened N hidden).free k 0) (eqb-true i j ((and-eq-true_iff (normal i) _).0 (sym (has-own i j) ∙ h)).1);
      }
    where
      alone : (x y e : Bool) → (e ≡ true → x ≡ y) → x && e ≡ x && (y && (e || false))
      alone true true true h = refl
      alone true true false h = refl
      alone true false true h = absurd (true≢false (h refl))
      alone true false false h = refl
      alone false y e h = refl

  pub opened-regular : (cap : ℕ) → Regular cap (opened N hidden)
  unfolding opened
  opened-regular cap =
      record {
        size_low = low;
        size_high = high;
        hidden_in = in-it;
        groups_few = omega arith;
        rising = tt;
        each = tt;
        links_long = refl;
        free_long = refl;
        within = λ i j h. absurd (false≢true (sym (no-link i j) ∙ h));
        met = tt;
        wires = wires;
      }
