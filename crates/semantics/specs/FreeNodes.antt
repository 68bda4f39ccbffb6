-- Which nodes are free normal nodes. Assumes nothing.
use Rattle.std.specs.Prelude.{◌≡◌, ◌↔◌, true, false, List, map, ℕ, ◌<◌, length, ltb}
use Rattle.std.proofs.Common.{sym, ap, ◌∙◌, true≢false, arith, ltb-true, lt-ltb}
use Rattle.std.proofs.Math.Bool.{and-eq-true_iff}
use Rattle.std.proofs.lemmas.List.{length-map}
use Rattle.nodes.specs.Sets.{has}
use Rattle.nodes.proofs.SetLaws.{union_all-in, union_all_out}
use Rattle.semantics.specs.State.{Group, State, all_members}
use Rattle.semantics.specs.Regular.{loose}
use Rattle.semantics.specs.Truth.{unless, not_iff}
use Rattle.semantics.specs.FreeGroupsOfNodes.{has-free_nodes}
use Rattle.semantics.specs.Places.{group_at, members_at-place}

-- a normal node of the roster, in no s_group
pub record FreeNode (st : State) (i : ℕ) : Type 0 where
  pub on_roster : i < st.size
  pub normal : has st.hidden i ≡ false
  pub in_none : (g : ℕ) → g < length st.groups → has (group_at st.groups g).members i ≡ false

in_none-iff : (gs : List Group) (i : ℕ) → (has (all_members gs) i ≡ false) ↔ ((g : ℕ) → g < length gs → has (group_at gs g).members i ≡ false)
in_none-iff gs i = (
  λ h g l. unless _ (λ m. true≢false (sym (union_all-in (map (λ x. x.members) gs) g i (ap (λ (w : ℕ). has w i) (members_at-place gs g) ∙ m)) ∙ h)),
  λ h.
      unless _ (λ m.
      let q = union_all_out (map (λ x. x.members) gs) i m in
      true≢false (sym q.2 ∙ ap (λ (w : ℕ). has w i) (members_at-place gs q.0) ∙ h q.0 (omega (arith, q.1, length-map {A = Group} {B = ℕ} gs (λ x. x.members))))),
)

pub loose-iff : (st : State) (i : ℕ) → (loose st i ≡ true) ↔ FreeNode st i
loose-iff st i = (
  λ h.
      let a = (and-eq-true_iff _ _).0 (sym (has-free_nodes st i) ∙ h) in
      let b = (and-eq-true_iff (ltb i st.size) _).0 a.0 in
      record {
        on_roster = ltb-true i st.size b.0;
        normal = (not_iff _).0 b.1;
        in_none = (in_none-iff st.groups i).0 ((not_iff _).0 a.1);
      },
  λ f. has-free_nodes st i ∙ rw (lt-ltb i st.size f.on_roster, f.normal, (in_none-iff st.groups i).1 f.in_none),
)
