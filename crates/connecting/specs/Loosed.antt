-- What the code that changes connections and free groups relies on, of the state before. Definitions, and that they hold of a regular state.
-- Assumes nothing.
use Rattle.std.specs.Prelude.{◌≡◌, true, false, not, ◌&&◌, List, ℕ, ◌≤◌, ltb, get_or}
use Rattle.std.proofs.Common.{sym, ◌∙◌, arith}
use Rattle.std.proofs.Math.Bool.{and-eq-true_iff}
use Rattle.std.proofs.lemmas.Bool.{false≢true, not-true}
use Rattle.nodes.specs.Sets.{has}
use Rattle.nodes.proofs.SetLaws.{has-ext, has-none}
use Rattle.semantics.specs.State.{Group, State, with_groups, free_of, all_members}
use Rattle.semantics.specs.Regular.{Regular, loose}
use Rattle.semantics.specs.Truth.{unless}
use Rattle.semantics.specs.FreeGroupsOfNodes.{has-free_nodes, loose-on_roster}

-- no node past the roster has a free group
abbrev pub Rostered : State → Type 0
Rostered st = (i : ℕ) → st.size ≤ i → free_of i st ≡ 0

-- connections are mutual, and a node that has a free group is normal and in no s_group
pub record Apart (st : State) : Type 0 where
  pub both_ways : (i j : ℕ) → has (get_or st.links i 0) j ≡ has (get_or st.links j 0) i
  pub outside : (i j : ℕ) → has (free_of i st) j ≡ true → has (all_members st.groups) i ≡ false
  pub normal : (i j : ℕ) → has (free_of i st) j ≡ true → has st.hidden i ≡ false

module _ {cap : ℕ} {st : State} (w : Regular cap st) where
  -- a node with a free group is loose
  loose-holder : (i j : ℕ) → has (free_of i st) j ≡ true → loose st i ≡ true
  loose-holder i j h = ((and-eq-true_iff (loose st i) _).0 (sym (w.wires.frees i j) ∙ h)).0

  pub regular-rostered : Rostered st
  regular-rostered i h =
      has-ext (free_of i st) 0 (λ j. unless (has (free_of i st) j) (λ e. omega (arith, loose-on_roster st i (loose-holder i j e))) ∙ sym (has-none j))

  -- normal, and in no s_group
  apart : (i : ℕ) → loose st i ≡ true → (not (has st.hidden i) ≡ true) × (not (has (all_members st.groups) i) ≡ true)
  apart i h =
      let p = (and-eq-true_iff (ltb i st.size && not (has st.hidden i)) _).0 (sym (has-free_nodes st i) ∙ h) in
      (((and-eq-true_iff (ltb i st.size) _).0 p.0).1, p.1)

  pub regular-apart : Apart st
  regular-apart = record {
    both_ways = w.wires.both_ways;
    outside = λ i j h. not-true (has (all_members st.groups) i) (apart i (loose-holder i j h)).1;
    normal = λ i j h. not-true (has st.hidden i) (apart i (loose-holder i j h)).0;
  }

  -- with other s_groups that have no node more
  pub apart-fewer : (gs : List Group) → ((i : ℕ) → has (all_members gs) i ≡ true → has (all_members st.groups) i ≡ true) → Apart (with_groups gs st)
  apart-fewer gs h = record {
    both_ways = regular-apart.both_ways;
    outside = λ i j k. unless (has (all_members gs) i) (λ e. false≢true (sym (regular-apart.outside i j k) ∙ h i e));
    normal = regular-apart.normal;
  }
