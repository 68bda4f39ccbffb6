-- A regular state is determined by what is published of it, and so is a sound table. Assumes nothing.
use Rattle.std.specs.Prelude.{◌≡◌, Bool, true, ◌&&◌, List, [], ◌∷◌, ℕ, ◌≤◌, ◌<◌, ltb, get_or}
use Rattle.std.proofs.Math.Path.{sym, ap, fun_ext}
use Rattle.std.proofs.Common.{◌∙◌, ⊎_elim, arith, lt-ltb, le-ltb}
use Rattle.std.proofs.lemmas.Bool.{false≢true}
use Rattle.std.proofs.Math.Bool.{and-true, and_comm}
use Rattle.std.proofs.Math.Seq.{ext_get_or}
use Rattle.nodes.specs.Sets.{has}
use Rattle.nodes.specs.Bools.{by_lt, and-follows}
use Rattle.nodes.proofs.SetLaws.{has-ext, has-below}
use Rattle.semantics.specs.Sizes.{names_per_group, group_names}
use Rattle.semantics.specs.State.{State, find}
use Rattle.semantics.specs.Table.{state_of}
use Rattle.semantics.specs.Soundness.{Sound}
use Rattle.semantics.specs.Regular.{Regular}
use Rattle.semantics.proofs.KeyPlaces.{same-found}
use Rattle.semantics.proofs.Agree.{test-regular, same-state-same-table, sound-iff}
use Rattle.published.specs.Published.{of_some, SGroup, Node, Published, those}
use Rattle.published.proofs.SeenState.{seen, published, chained, seen_table, mapped, seen-sound}
use Rattle.published.proofs.GroupsSeen.{groups_seen, node_seen, those-seen, gathered}

module _ {cap : ℕ} (a b : State) (v : Regular cap a) (w : Regular cap b) (e : published a ≡ published b) where
  -- a test of a node of both
  of-nodes : (f : Node → Bool) (i : ℕ)
      → ltb i a.size && f (node_seen a.hidden a.links (groups_seen a.groups) i)
      ≡ ltb i b.size && f (node_seen b.hidden b.links (groups_seen b.groups) i)
  unfolding published
  of-nodes f i =
      sym (those-seen f a.size a.hidden a.links (groups_seen a.groups) i) ∙ ap (λ (X : Published). those f X.nds i) e
      ∙ those-seen f b.size b.hidden b.links (groups_seen b.groups) i

  same_size : a.size ≡ b.size
  same_size = ⊎_elim
      (λ (l : a.size < b.size). absurd (false≢true (sym (le-ltb a.size a.size (omega arith)) ∙ same a.size ∙ lt-ltb a.size b.size l)))
      (λ (l : b.size ≤ a.size). ⊎_elim
      (λ (m : b.size < a.size). absurd (false≢true (sym (le-ltb b.size b.size (omega arith)) ∙ sym (same b.size) ∙ lt-ltb b.size a.size m)))
      (λ (m : a.size ≤ b.size). omega arith)
      (by_lt b.size a.size))
      (by_lt a.size b.size)
    where
      same : (i : ℕ) → ltb i a.size ≡ ltb i b.size
      same i = sym (and-true (ltb i a.size)) ∙ of-nodes (λ nd. true) i ∙ and-true (ltb i b.size)

  -- a node that has something is on the roster
  on : (n i : ℕ) (x : Bool) → (x ≡ true → i < n) → ltb i n && x ≡ x
  on n i x h = and_comm (ltb i n) x ∙ and-follows x (ltb i n) (λ k. lt-ltb i n (h k))

  same-hidden : a.hidden ≡ b.hidden
  same-hidden = has-ext a.hidden b.hidden λ i.
      sym (on a.size i (has a.hidden i) (has-below a.hidden a.size i v.hidden_in))
      ∙ of-nodes (λ nd. nd.hidden) i ∙ on b.size i (has b.hidden i) (has-below b.hidden b.size i w.hidden_in)

  same-links : a.links ≡ b.links
  same-links = ext_get_or 0 a.links b.links (v.links_long ∙ sym w.links_long) λ i l. has-ext _ _ λ j.
      sym (on a.size i (has (get_or a.links i 0) j) (λ h. v.within j i (sym (v.wires.both_ways i j) ∙ h)))
      ∙ of-nodes (λ nd. nd.connections j) i
      ∙ on b.size i (has (get_or b.links i 0) j) (λ h. w.within j i (sym (w.wires.both_ways i j) ∙ h))

  same-free : a.free ≡ b.free
  unfolding published
  same-free = ext_get_or 0 a.free b.free (v.free_long ∙ sym w.free_long) λ i l. has-ext _ _ λ j. ap (λ (X : Published). X.fgs i j) e

  same_seen : (s : ℕ) → find s a.groups ≡ find s b.groups
  unfolding published
  same_seen s =
      same-found v w seen
      (λ g h f. (has-ext g.members h.members (λ i. ap (λ (x : SGroup). x.nodes i) f), λ n. ap (λ (x : SGroup). x.namespace n) f)) s
      (mapped seen (find s a.groups) ∙ ap (λ (X : Published). X.grs s) e ∙ sym (mapped seen (find s b.groups)))

  same-groups : a.groups ≡ b.groups
  same-groups =
      sym (gathered cap a.size a.groups v.rising v.each)
      ∙ ap (chained group_names 0) (fun_ext (λ s. ap (of_some [] (λ g. g ∷ [])) (same_seen s)))
      ∙ gathered cap b.size b.groups w.rising w.each

  pub state-determined : a ≡ b
  state-determined = λ k. record { size = same_size k; hidden = same-hidden k; groups = same-groups k; links = same-links k; free = same-free k }

-- sound tables of one published state are equal
pub table-determined : (t u : List ℕ) → Sound names_per_group t → Sound names_per_group u → seen_table t ≡ seen_table u → t ≡ u
table-determined t u p q e =
    let a = (sound-iff names_per_group t).1 p in
    let b = (sound-iff names_per_group u).1 q in
    same-state-same-table names_per_group t u a b
    (state-determined (state_of names_per_group t) (state_of names_per_group u) (test-regular names_per_group t a).0 (test-regular names_per_group u b).0
    (sym (seen-sound t p) ∙ e ∙ seen-sound u q))
