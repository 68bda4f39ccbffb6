-- NewFreeNodes in one case: where the normal nodes that become free are connected with each other, 000's three cases come to one.
-- Assumes nothing.
use Rattle.std.specs.Prelude.{◌≡◌, ◌≢◌, Bool, true, false, ◌&&◌, cond, ℕ, ◌≤◌, ◌<◌}
use Rattle.std.proofs.Math.Path.{refl, fun_ext}
use Rattle.std.proofs.Common.{sym, ap, ap₂, ◌∙◌, ⊎_elim, arith}
use Rattle.std.proofs.Math.Bool.{not, and-false, and_assoc, and-eq-true_iff}
use Rattle.std.proofs.lemmas.Bool.{false≢true}
use Rattle.std.proofs.Math.Option.{Option, none, some}
use Rattle.nodes.specs.Sets.{node_limit}
use Rattle.nodes.specs.Bools.{by_lt}
use Rattle.semantics.specs.Sizes.{group_names}
use Rattle.semantics.specs.Ranges.{held}
use Rattle.semantics.specs.Truth.{unless}
use Rattle.published.specs.Published.{Set, Map, of_some, ◌∪◌, nobody, any, GrNames, NoGroup, Names, Node, FreeGroups, Published, those, with_gr_names, with_free, InterConnectNodes, Joined, left_none, NewlyFree, FindFreeNormalGroups, MergeFreeNormalGroups, AddFreeNormalGroup, NewFreeNodes}
use Rattle.published.proofs.SomeBelow.{any_case, any_none, any-no}
use Rattle.published.proofs.GroupsSeen.{on_some, held-those}
use Rattle.published.proofs.Rewired.{interconnect-idle}

-- {} as NoGroup
abbrev pub to_NoGroup : GrNames → GrNames
to_NoGroup NoGroup = NoGroup
to_NoGroup (Names gs) = cond (any group_names gs) (Names gs) NoGroup

-- the hidden nodes that become free
abbrev pub new_hidden : Map Node → Set
new_hidden nds = those (λ nd. left_none nd.gr_names && nd.hidden) nds

-- the normal ones
abbrev pub new_normal : Map Node → Set
new_normal nds = those (λ nd. left_none nd.gr_names && not nd.hidden) nds

-- the free normal nodes that are connected with one of them
abbrev pub touching : FreeGroups → Map Node → Set
touching fgs nds i = fgs i i && any node_limit (λ k. new_normal nds k && those (λ nd. nd.connections i) nds k)

-- the nodes that become one free group
abbrev pub merging : FreeGroups → Map Node → Set
merging fgs nds = FindFreeNormalGroups (touching fgs nds) fgs ∪ new_normal nds

-- the nodes, with NoGroup for {}
abbrev pub no_group : Map Node → Map Node
no_group nds i = on_some (λ nd. with_gr_names (to_NoGroup nd.gr_names) nd) (nds i)

-- NewFreeNodes, in one case
abbrev pub in_one : Published → Published
in_one X =
    record {
      grs = X.grs;
      fgs = Joined (merging X.fgs X.nds) X.fgs;
      fhs = X.fhs ∪ new_hidden X.nds;
      nds = InterConnectNodes (merging X.fgs X.nds) (no_group X.nds);
    }

-- ---- the nodes of 000 are these

freed-those : (f : Node → Bool) (nds : Map Node) (i : ℕ) → those f (NewlyFree nds) i
    ≡ those (λ nd. left_none nd.gr_names && f (with_gr_names NoGroup nd)) nds i
freed-those f nds i = go (nds i)
  where
    at : (x : Bool) (nd : Node) → of_some false f (cond x (some nd) none) ≡ x && f nd
    at true nd = refl
    at false nd = refl

    go : (o : Option Node) → of_some false f (of_some none (λ nd. cond (left_none nd.gr_names) (some (with_gr_names NoGroup nd)) none) o)
        ≡ of_some false (λ nd. left_none nd.gr_names && f (with_gr_names NoGroup nd)) o
    go none = refl
    go (some nd) = at (left_none nd.gr_names) (with_gr_names NoGroup nd)

replaced : (nds : Map Node) (i : ℕ) → of_some (nds i) some (NewlyFree nds i) ≡ no_group nds i
replaced nds i = go (nds i)
  where
    at : (nd : Node) (x : Bool) (gs : Set) → of_some (some (with_gr_names (Names gs) nd)) some (cond (not x) (some (with_gr_names NoGroup nd)) none)
        ≡ some (with_gr_names (cond x (Names gs) NoGroup) nd)
    at nd true gs = refl
    at nd false gs = refl

    names : (nd : Node) (g : GrNames) → of_some (some (with_gr_names g nd)) some (cond (left_none g) (some (with_gr_names NoGroup nd)) none)
        ≡ some (with_gr_names (to_NoGroup g) nd)
    names nd NoGroup = refl
    names nd (Names gs) = at nd (any group_names gs) gs

    go : (o : Option Node) → of_some o some (of_some none (λ nd. cond (left_none nd.gr_names) (some (with_gr_names NoGroup nd)) none) o)
        ≡ on_some (λ nd. with_gr_names (to_NoGroup nd.gr_names) nd) o
    go none = refl
    go (some nd) = names nd nd.gr_names

module _ (fgs : FreeGroups) (nds : Map Node) where
  css-are : (λ i. fgs i i && any node_limit (those (λ nd. not nd.hidden && nd.connections i) (NewlyFree nds))) ≡ touching fgs nds
  css-are = fun_ext (λ i. ap (λ (a : Set). fgs i i && any node_limit a) (fun_ext (λ k.
      freed-those (λ nd. not nd.hidden && nd.connections i) nds k ∙ split i (nds k))))
    where
      split : (i : ℕ) (o : Option Node) → of_some false (λ nd. left_none nd.gr_names && (not nd.hidden && nd.connections i)) o
          ≡ of_some false (λ nd. left_none nd.gr_names && not nd.hidden) o && of_some false (λ nd. nd.connections i) o
      split i none = refl
      split i (some nd) = sym (and_assoc (left_none nd.gr_names) (not nd.hidden) (nd.connections i))

  none_found : (css : Set) → any node_limit css ≡ false → FindFreeNormalGroups css fgs ≡ nobody
  none_found css h =
      fun_ext (λ i. unless (FindFreeNormalGroups css fgs i) (λ e. any_case node_limit (λ k. css k && fgs k i) e (λ k l q.
      false≢true (sym (any_none node_limit css h k l) ∙ ((and-eq-true_iff (css k) (fgs k i)).0 q).0))))

  merge_none : new_normal nds ≡ nobody → merging fgs nds ≡ nobody
  merge_none h =
      ap₂ ◌∪◌
      (none_found (touching fgs nds) (any-no node_limit (touching fgs nds) (λ i.
      ap (λ (x : Bool). fgs i i && x) (any-no node_limit _ (λ k. ap (λ (a : Set). a k && those (λ nd. nd.connections i) nds k) h)) ∙ and-false (fgs i i))))
      h

-- connections are as they were
same-links : (nds : Map Node) (i j : ℕ) → those (λ nd. nd.connections j) (no_group nds) i ≡ those (λ nd. nd.connections j) nds i
same-links nds i j = go (nds i)
  where
    go : (o : Option Node) → of_some false (λ nd. nd.connections j) (on_some (λ nd. with_gr_names (to_NoGroup nd.gr_names) nd) o)
        ≡ of_some false (λ nd. nd.connections j) o
    go none = refl
    go (some nd) = refl

module _ (X : Published) (roster : (i : ℕ) → held (X.nds i) ≡ true → i < node_limit)
    (no_self : (i : ℕ) → those (λ nd. nd.connections i) X.nds i ≡ false)
    (met : (i j : ℕ) → new_normal X.nds i ≡ true → new_normal X.nds j ≡ true → i ≢ j → those (λ nd. nd.connections j) X.nds i ≡ true) where
  -- the state that MergeFreeNormalGroups starts from
  abbrev ready : Published
  ready = record { grs = X.grs; fgs = X.fgs; fhs = X.fhs ∪ new_hidden X.nds; nds = no_group X.nds }

  none-new : any node_limit (new_normal X.nds) ≡ false → new_normal X.nds ≡ nobody
  none-new h =
      fun_ext (λ i. ⊎_elim
      (λ (l : i < node_limit). any_none node_limit (new_normal X.nds) h i l)
      (λ (l : node_limit ≤ i). unless (new_normal X.nds i) (λ e. omega (arith, roster i (held-those _ X.nds i e))))
      (by_lt i node_limit))

  idle : (nis : Set) → ((i j : ℕ) → nis i ≡ true → nis j ≡ true → i ≢ j → those (λ nd. nd.connections j) X.nds i ≡ true)
      → InterConnectNodes nis (no_group X.nds) ≡ no_group X.nds
  idle nis h = interconnect-idle nis (no_group X.nds) (λ i. same-links X.nds i i ∙ no_self i) (λ i j p q n. same-links X.nds i j ∙ h i j p q n)

  -- with the nodes nis in one free group, and connected
  abbrev joined : Set → Published
  joined nis = with_free (Joined nis X.fgs) (InterConnectNodes nis (no_group X.nds)) ready

  three-cases : (x : Bool) → any node_limit (new_normal X.nds) ≡ x → (y : Bool) → any node_limit (touching X.fgs X.nds) ≡ y
      → cond (not x) ready (cond (not y) (with_free (Joined (new_normal X.nds) X.fgs) (no_group X.nds) ready)
      (joined (merging X.fgs X.nds))) ≡ in_one X
  three-cases true p true q = refl
  three-cases true p false q =
      ap (λ (m : Map Node). with_free (Joined (new_normal X.nds) X.fgs) m ready) (sym (idle (new_normal X.nds) met))
      ∙ ap joined (sym (ap (λ (a : Set). a ∪ new_normal X.nds) (none_found X.fgs X.nds (touching X.fgs X.nds) q)))
  three-cases false p y q =
      ap (λ (m : Map Node). with_free X.fgs m ready) (sym (idle nobody (λ i j h. absurd (false≢true h))))
      ∙ ap joined (sym (merge_none X.fgs X.nds (none-new p)))

  pub one-case : NewFreeNodes X ≡ in_one X
  unfolding NewFreeNodes AddFreeNormalGroup MergeFreeNormalGroups
  one-case =
      (λ k. MergeFreeNormalGroups
      (fun_ext (λ i. freed-those (λ nd. not nd.hidden) X.nds i) k)
      (css-are X.fgs X.nds k)
      (record {
        grs = X.grs;
        fgs = X.fgs;
        fhs = X.fhs ∪ fun_ext (λ i. freed-those (λ nd. nd.hidden) X.nds i) k;
        nds = fun_ext (replaced X.nds) k;
      }))
      ∙ three-cases (any node_limit (new_normal X.nds)) refl (any node_limit (touching X.fgs X.nds)) refl
