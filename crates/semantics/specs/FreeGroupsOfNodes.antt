-- The free normal nodes of a state, and their free groups where the state is regular. Assumes nothing.
use Rattle.std.specs.Prelude.{◌≡◌, refl, Bool, true, false, not, ◌&&◌, ◌||◌, List, ℕ, ◌^◌, ◌<◌, eqb, ltb, get_or}
use Rattle.std.proofs.Common.{sym, ap, ◌∙◌, eq-eqb, eqb-true, ltb-true}
use Rattle.std.proofs.Math.Bool.{or-true, and_self, and-true, and-false, and-eq-true_iff}
use Rattle.nodes.specs.Sets.{has, empty, roster, diff}
use Rattle.nodes.proofs.SetLaws.{has_diff, has-roster, has-none, below-pow}
use Rattle.semantics.specs.State.{Group, State, with_groups, free_of, all_members, free_nodes}
use Rattle.semantics.specs.Regular.{Regular, loose}

-- ---- any state

pub has-free_nodes : (st : State) (i : ℕ)
    → has (free_nodes st) i ≡ (ltb i st.size && not (has st.hidden i)) && not (has (all_members st.groups) i)
has-free_nodes st i =
    has_diff (diff (roster st.size) st.hidden) (all_members st.groups) i
    ∙ ap (λ (x : Bool). x && not (has (all_members st.groups) i))
    (has_diff (roster st.size) st.hidden i ∙ ap (λ (x : Bool). x && not (has st.hidden i)) (has-roster st.size i))

pub loose-on_roster : (st : State) (i : ℕ) → loose st i ≡ true → i < st.size
loose-on_roster st i h =
    ltb-true i st.size ((and-eq-true_iff (ltb i st.size) _).0 ((and-eq-true_iff _ _).0 (sym (has-free_nodes st i) ∙ h)).0).0

pub loose_in-none : (st : State) (i : ℕ) → has (all_members st.groups) i ≡ true → loose st i ≡ false
loose_in-none st i h = has-free_nodes st i ∙ rw h (and-false (ltb i st.size && not (has st.hidden i)))

-- where the nodes of a set come into the s_groups, those of the set are no longer loose
pub loose-fewer : (st : State) (gs : List Group) (set i : ℕ) → has (all_members gs) i ≡ has (all_members st.groups) i || has set i
    → loose (with_groups gs st) i ≡ loose st i && not (has set i)
loose-fewer st gs set i h =
    has-free_nodes (with_groups gs st) i ∙ rw h (less (ltb i st.size && not (has st.hidden i)) (has (all_members st.groups) i) (has set i))
    ∙ ap (λ (x : Bool). x && not (has set i)) (sym (has-free_nodes st i))
  where
    less : (r x t : Bool) → r && not (x || t) ≡ (r && not x) && not t
    less true true t = refl
    less true false t = refl
    less false x t = refl

-- ---- free groups of a regular state

module _ {cap : ℕ} {st : State} (w : Regular cap st) where
  -- a node of a free group is loose
  pub loose_in : (i j : ℕ) → has (free_of i st) j ≡ true → loose st j ≡ true
  loose_in i j h = ((and-eq-true_iff (loose st j) _).0 ((and-eq-true_iff (loose st i) _).0 (sym (w.wires.frees i j) ∙ h)).1).0

  -- a loose node is in its free group
  pub own_free : (i : ℕ) → has (free_of i st) i ≡ loose st i
  own_free i = w.wires.frees i i ∙ rw (eq-eqb i i refl, and-true (loose st i)) (and_self (loose st i))

  pub not-loose : (i : ℕ) → empty (free_of i st) ≡ true → loose st i ≡ false
  not-loose i h = sym (own_free i) ∙ ap (λ (f : ℕ). has f i) (eqb-true (free_of i st) 0 h) ∙ has-none i

  pub free-lt : (i : ℕ) → free_of i st < 2 ^ st.size
  free-lt i = below-pow (free_of i st) st.size (λ j h. loose-on_roster st j (loose_in i j h))

  -- a free group has each loose node that is connected with one of its nodes
  pub spread : (c i j : ℕ) → has (free_of c st) j ≡ true → loose st i ≡ true → has (get_or st.links i 0) j ≡ true → has (free_of c st) i ≡ true
  spread c i j h k l =
      ap (λ (f : ℕ). has f i) (w.wires.classes c j h) ∙ w.wires.frees j i
      ∙ rw (loose_in c j h, k, w.wires.both_ways j i ∙ l) (or-true (eqb j i))
