-- own_nodes and own_s_groups are the published ones. Assumes nothing.
use Rattle.std.specs.Prelude.{◌≡◌, Bool, ◌&&◌, ℕ, ◌^◌, ◌<◌}
use Rattle.std.proofs.Math.Path.{refl, sym, ap, fun_ext}
use Rattle.std.proofs.Common.{ap₂, ◌∙◌, ⊎_elim, eq-eqb, ne_eqb, lt-ltb}
use Rattle.std.proofs.Math.Bool.{true, false, not, cond, and_self, or-true, or-false, and-eq-true_iff}
use Rattle.std.proofs.lemmas.Bool.{false≢true}
use Rattle.std.proofs.Math.Option.{Option, none, some}
use mathlib.Core.List.{List, [], ◌∷◌, ◌++◌, map}
use Rattle.std.proofs.Math.Pow.{pow_pos, pow-lt}
use Rattle.nodes.specs.Sets as Nodes
use Rattle.nodes.specs.Sets.{node_limit, has, single, union_all, empty}
use Rattle.nodes.specs.Bools.{by_eq}
use Rattle.nodes.proofs.SetLaws.{has-union, has-single, has-none, has-ext, union-lt}
use Rattle.semantics.specs.Sizes.{group_names}
use Rattle.semantics.specs.State.{Group, State, free_of, find, all_members}
use Rattle.semantics.specs.Steps.{own_set, own_list}
use Rattle.semantics.specs.Regular.{Every, RegularGroup, Regular, loose}
use Rattle.semantics.specs.Truth.{neither, unless}
use Rattle.semantics.specs.Groups.{found_name}
use Rattle.semantics.specs.Members.{in-word}
use Rattle.semantics.specs.FreeGroupsOfNodes.{own_free, free-lt}
use Rattle.semantics.specs.Changed.{regular-found}
use Rattle.answers.specs.declared.Value.TheVariants.{Nodes}
use Rattle.published.specs.Published.{Set, Map, of_some, any, only, SGroup, IsSGroupNode, SameSGroup, OwnSGroupNis, OwnGroupNis, OutputOwnSGroups, Nis}
use Rattle.published.proofs.SeenState.{seen, published, set_word, chained, group_words, said}
use Rattle.published.proofs.SomeBelow.{any_case, any_none}
use Rattle.published.proofs.Concatenated.{chained-none, run_all, word_of, count-has}
use Rattle.published.proofs.GroupsSeen.{on_some, member, groups_seen, in_found, unions-seen, chained-found}
use Rattle.published.proofs.ConnectRule.{in-groups, loose-is, empty-free}

-- ---- own_nodes

module _ {cap : ℕ} (st : State) (w : Regular cap st) (i : ℕ) (i-in : i < st.size) where
  abbrev grs : Map SGroup
  grs = groups_seen st.groups

  -- the members of the s_group, where i is one
  abbrev of_mine : Group → ℕ
  of_mine g = cond (has g.members i) g.members 0

  mine : ℕ
  mine = union_all (map of_mine st.groups)

  mine-seen : (j : ℕ) → has mine j ≡ SameSGroup i j grs
  unfolding mine
  mine-seen j =
      sym (unions-seen of_mine j cap st.size st.groups w.rising w.each) ∙ ap (any group_names) (fun_ext (λ t. same (find t st.groups)))
    where
      inner : (m : ℕ) (x : Bool) → has (cond x m 0) j ≡ x && has m j
      inner m true = refl
      inner m false = has-none j

      same : (o : Option Group) → in_found of_mine j o ≡ member i (on_some seen o) && member j (on_some seen o)
      same none = refl
      same (some g) = inner g.members (has g.members i)

  in-mine : has mine i ≡ IsSGroupNode i grs
  in-mine = mine-seen i ∙ ap (any group_names) (fun_ext (λ t. and_self (member i (grs t))))

  -- in an s_group
  some-mine : IsSGroupNode i grs ≡ true → has mine ≡ OwnSGroupNis i grs
  some-mine h = fun_ext (λ j. ⊎_elim
      (λ (e : i ≡ j). ap (has mine) (sym e) ∙ in-mine ∙ h ∙ sym (rw (eq-eqb i j e) (or-true (SameSGroup i j grs))))
      (λ (e : i ≡ j → ⊥). mine-seen j ∙ sym (rw (ne_eqb i j e) (or-false (SameSGroup i j grs))))
      (by_eq i j))

  not-empty : IsSGroupNode i grs ≡ true → empty mine ≡ false
  not-empty h = ne_eqb mine 0 (λ e. false≢true (sym (has-none i) ∙ ap (λ (m : ℕ). has m i) (sym e) ∙ in-mine ∙ h))

  -- in none
  no-mine : IsSGroupNode i grs ≡ false → mine ≡ 0
  no-mine h = has-ext mine 0 (λ j. mine-seen j ∙ unless (SameSGroup i j grs) (λ e. any_case group_names _ e (λ t l q.
      false≢true (sym (any_none group_names (λ u. member i (grs u)) h t l) ∙ ((and-eq-true_iff (member i (grs t)) _).0 q).0))) ∙ sym (has-none j))

  own-seen : has (own_set i st) ≡ OwnGroupNis i (published st)
  unfolding published mine
  own-seen =
      rw (empty-free st w i, own_free w i)
      (go (has st.hidden i) (IsSGroupNode i grs) refl (loose st i) (loose-is st w i ∙ rw (lt-ltb i st.size i-in)))
    where
      go : (h g : Bool) → IsSGroupNode i grs ≡ g → (l : Bool) → l ≡ not h && not g
          → has (cond (not l) (cond (empty mine) (single i) mine) (free_of i st))
          ≡ cond l (has (free_of i st)) (cond (h && not g) (only i) (OwnSGroupNis i grs))
      go h g b true c = refl
      go true true b false c = rw (not-empty b) (some-mine b)
      go true false b false c = ap (λ (m : ℕ). has (cond (empty m) (single i) m)) (no-mine b) ∙ fun_ext (has-single i)
      go false true b false c = rw (not-empty b) (some-mine b)
      go false false b false c = absurd (false≢true c)

  mine-lt : (gs : List Group) → Every (RegularGroup cap st.size) gs → union_all (map of_mine gs) < 2 ^ st.size
  unfolding union_all
  mine-lt [] e = pow_pos st.size
  mine-lt (g ∷ gs) e = union-lt st.size (of_mine g) (union_all (map of_mine gs)) (go (has g.members i)) (mine-lt gs e.1)
    where
      go : (x : Bool) → cond x g.members 0 < 2 ^ st.size
      go true = e.0.on_roster
      go false = pow_pos st.size

  own-lt : own_set i st < 2 ^ node_limit
  unfolding mine
  own-lt = in-word w.size_high (go (empty (free_of i st)) (empty mine))
    where
      go : (x y : Bool) → cond x (cond y (single i) mine) (free_of i st) < 2 ^ st.size
      go true true = pow-lt i-in
      go true false = mine-lt st.groups w.each
      go false y = free-lt w i

  pub own-said : said (Nis (OwnGroupNis i (published st))) ≡ (Nodes (own_set i st) (Nodes.count (own_set i st)), [])
  own-said =
      ap (λ (a : Set). said (Nis a)) (sym own-seen)
      ∙ λ k. (Nodes (word_of node_limit (own_set i st) own-lt k) (count-has node_limit (own_set i st) own-lt k), [])

-- ---- own_s_groups

module _ {cap : ℕ} (st : State) (w : Regular cap st) (i : ℕ) where
  -- the two words of an s_group of i
  abbrev own_words : Group → List ℕ
  own_words g = cond (has g.members i) (g.name ∷ g.members ∷ []) []

  run-own : (gs : List Group) → run_all (λ g. g.name) own_words gs ≡ own_list i gs
  unfolding run_all
  run-own [] = refl
  run-own (g ∷ gs) = go (has g.members i) (run-own gs)
    where
      go : (x : Bool) → run_all (λ h. h.name) own_words gs ≡ own_list i gs
          → cond x (g.name ∷ g.members ∷ []) [] ++ run_all (λ h. h.name) own_words gs ≡ cond x (g.name ∷ g.members ∷ own_list i gs) (own_list i gs)
      go true e = ap (λ (l : List ℕ). g.name ∷ g.members ∷ l) e
      go false e = e

  -- the words of the s_group s, if it is one of i
  words_at : (s : ℕ) → of_some [] (λ nis. s ∷ set_word node_limit nis ∷ []) (OutputOwnSGroups i (groups_seen st.groups) s)
      ≡ of_some [] own_words (find s st.groups)
  words_at s = go (find s st.groups) refl
    where
      in-it : (g : Group) → find s st.groups ≡ some g → (x : Bool)
          → of_some [] (λ nis. s ∷ set_word node_limit nis ∷ []) (cond x (some (has g.members)) none) ≡ cond x (g.name ∷ g.members ∷ []) []
      in-it g f true =
          ap₂ (λ (a b : ℕ). a ∷ b ∷ []) (sym (found_name s st.groups g f))
          (word_of node_limit g.members (in-word w.size_high (regular-found w s g f).on_roster))
      in-it g f false = refl

      go : (o : Option Group) → find s st.groups ≡ o
          → of_some [] (λ nis. s ∷ set_word node_limit nis ∷ []) (of_some none (λ g. cond (g.nodes i) (some g.nodes) none) (on_some seen o))
          ≡ of_some [] own_words o
      go none f = refl
      go (some g) f = in-it g f (has g.members i)

  no_own : (gs : List Group) → has (all_members gs) i ≡ false → own_list i gs ≡ []
  unfolding union_all
  no_own [] h = refl
  no_own (g ∷ gs) h =
      let parts = neither (has g.members i) (has (all_members gs) i) (sym (has-union g.members (all_members gs) i) ∙ h) in rw parts.0
      (no_own gs parts.1)

  pub own_list-seen : group_words (cond (IsSGroupNode i (groups_seen st.groups)) (OutputOwnSGroups i (groups_seen st.groups)) (λ s. none))
      ≡ own_list i st.groups
  own_list-seen = go (IsSGroupNode i (groups_seen st.groups)) refl
    where
      go : (x : Bool) → IsSGroupNode i (groups_seen st.groups) ≡ x → group_words (cond x (OutputOwnSGroups i (groups_seen st.groups)) (λ s. none))
          ≡ own_list i st.groups
      go true e = ap (chained group_names 0) (fun_ext words_at) ∙ chained-found cap st.size st.groups w.rising w.each own_words ∙ run-own st.groups
      go false e = chained-none group_names 0 ∙ sym (no_own st.groups (sym (in-groups st w i) ∙ e))
