-- What is seen of the nodes and the free groups when nodes meet, when s_groups change, and when free groups do. Assumes nothing.
use Rattle.std.specs.Prelude.{◌≡◌, refl, ◌≢◌, Bool, true, false, not, ◌&&◌, ◌||◌, cond, List, ℕ, ◌^◌, ◌<◌, eqb, ltb, length, get_or}
use Rattle.std.proofs.Common.{sym, ap, ◌∙◌, eqb-true}
use Rattle.std.proofs.Math.Path.{fun_ext}
use Rattle.std.proofs.Math.Bool.{and-false}
use Rattle.std.proofs.Math.Option.{Option, none, some}
use Rattle.std.proofs.lemmas.Bool.{eqb-false}
use Rattle.nodes.specs.Sets.{node_limit, has, word_at}
use Rattle.semantics.specs.Steps.{interconnect, leave_free, one_free_group}
use Rattle.semantics.specs.Members.{has-interconnect, has-leave_free, at-one_free_group}
use Rattle.published.specs.Published.{Set, Map, of_some, ◌∪◌, ◌∖◌, only, nobody, SGroup, GrNames, Node, those, on_nodes, with_gr_names, InterConnectNodes, Joined}
use Rattle.published.specs.Seen.{names_seen}
use Rattle.published.proofs.GroupsSeen.{on_some, free_seen, node_seen, nodes_seen}

-- ---- connections

-- what node i has when those of nis meet
abbrev met_set : Set → ℕ → Set → Set
met_set nis i cs = cond (nis i) ((cs ∪ nis) ∖ only i) cs

met_at : (nis : Set) (i : ℕ) (cs : Set) (j : ℕ) → met_set nis i cs j ≡ cond (nis i) ((cs j || nis j) && not (eqb i j)) (cs j)
met_at nis i cs j = go (nis i)
  where
    go : (x : Bool) → cond x ((cs ∪ nis) ∖ only i) cs j ≡ cond x ((cs j || nis j) && not (eqb i j)) (cs j)
    go true = refl
    go false = refl

-- on a node that is not among its own connections, the others of the set come to them
met-others : (l x y e : Bool) → (e ≡ true → l ≡ false) → l || (x && (y && not e)) ≡ cond x ((l || y) && not e) l
met-others true true y true h = h refl
met-others true true y false h = refl
met-others true false y e h = refl
met-others false true y e h = refl
met-others false false y e h = refl

links-met : (m : ℕ) (links : List ℕ) → m < 2 ^ node_limit → length links ≡ node_limit → ((i : ℕ) → has (get_or links i 0) i ≡ false) → (i : ℕ)
    → has (get_or (interconnect m links) i 0) ≡ met_set (has m) i (has (get_or links i 0))
links-met m links small long no_self i =
    fun_ext (λ j. has-interconnect m links small long i j
    ∙ met-others (has (get_or links i 0) j) (has m i) (has m j) (eqb i j) (λ e. ap (has (get_or links i 0)) (sym (eqb-true i j e)) ∙ no_self i)
    ∙ sym (met_at (has m) i (has (get_or links i 0)) j))

-- where the nodes of nis are connected, nothing is new
met-idle : (nis : Set) (i : ℕ) (cs : Set) → cs i ≡ false → ((j : ℕ) → nis i ≡ true → nis j ≡ true → i ≢ j → cs j ≡ true) → met_set nis i cs ≡ cs
met-idle nis i cs no_self met = fun_ext (λ j. met_at nis i cs j ∙ go j (nis i) refl (nis j) refl (eqb i j) refl (cs j) refl)
  where
    go : (j : ℕ) (x : Bool) → nis i ≡ x → (y : Bool) → nis j ≡ y → (e : Bool) → eqb i j ≡ e → (l : Bool) → cs j ≡ l → cond x ((l || y) && not e) l ≡ l
    go j true p y q true r l k = and-false (l || y) ∙ sym no_self ∙ ap cs (eqb-true i j r) ∙ k
    go j true p y q false r true k = refl
    go j true p true q false r false k = sym (met j p q (eqb-false i j r)) ∙ k
    go j true p false q false r false k = refl
    go j false p y q e r l k = refl

-- ---- nodes

-- InterConnectNodes, node by node
interconnect-at : (nis : Set) (nds : Map Node) (i : ℕ)
    → InterConnectNodes nis nds i ≡ on_some (λ nd. record {
      hidden = nd.hidden;
      connections = met_set nis i
          nd.connections;
      gr_names = nd.gr_names;
    }) (nds i)
interconnect-at nis nds i = go (nis i) (nds i)
  where
    go : (x : Bool) (o : Option Node)
        → cond x (on_some (λ nd. record { hidden = nd.hidden; connections = (nd.connections ∪ nis) ∖ only i; gr_names = nd.gr_names }) o) o
        ≡ on_some (λ nd. record { hidden = nd.hidden; connections = cond x ((nd.connections ∪ nis) ∖ only i) nd.connections; gr_names = nd.gr_names }) o
    go true none = refl
    go true (some nd) = refl
    go false none = refl
    go false (some nd) = refl

-- connecting who is connected changes nothing
pub interconnect-idle : (nis : Set) (nds : Map Node) → ((i : ℕ) → those (λ nd. nd.connections i) nds i ≡ false)
    → ((i j : ℕ) → nis i ≡ true → nis j ≡ true → i ≢ j → those (λ nd. nd.connections j) nds i ≡ true) → InterConnectNodes nis nds ≡ nds
interconnect-idle nis nds no_self met = fun_ext (λ i. interconnect-at nis nds i ∙ go i (nds i) refl)
  where
    go : (i : ℕ) (o : Option Node) → nds i ≡ o
        → on_some (λ nd. record { hidden = nd.hidden; connections = met_set nis i nd.connections; gr_names = nd.gr_names }) o ≡ o
    go i none e = refl
    go i (some nd) e =
        let at : (j : ℕ) → nd.connections j ≡ those (λ m. m.connections j) nds i = λ j. sym (ap (of_some false (λ m. m.connections j)) e) in
        λ k. some (record {
          hidden = nd.hidden;
          connections = met-idle nis i nd.connections (at i ∙ no_self i) (λ j p q n. at j ∙ met i j p q n) k;
          gr_names = nd.gr_names;
        })

module _ (size hidden : ℕ) where
  -- the nodes of m meet
  pub interconnect-seen : (m : ℕ) (links : List ℕ) (grs : Map SGroup) → m < 2 ^ node_limit → length links ≡ node_limit
      → ((i : ℕ) → has (get_or links i 0) i ≡ false)
      → nodes_seen size hidden (interconnect m links) grs ≡ InterConnectNodes (has m) (nodes_seen size hidden links grs)
  interconnect-seen m links grs small long no_self =
      fun_ext (λ i. go i (ltb i size) ∙ sym (interconnect-at (has m) (nodes_seen size hidden links grs) i))
    where
      go : (i : ℕ) (x : Bool) → cond x (some (node_seen hidden (interconnect m links) grs i)) none
          ≡ on_some (λ nd. record { hidden = nd.hidden; connections = met_set (has m) i nd.connections; gr_names = nd.gr_names })
          (cond x (some (node_seen hidden links grs i)) none)
      go i true = λ k. some (record { hidden = has hidden i; connections = links-met m links small long no_self i k; gr_names = names_seen i grs })
      go i false = refl

  -- the s_groups of the nodes of nis are others
  pub regroup-seen : (F : GrNames → GrNames) (nis : Set) (links : List ℕ) (grs grs' : Map SGroup)
      → ((i : ℕ) → names_seen i grs' ≡ cond (nis i) (F (names_seen i grs)) (names_seen i grs))
      → nodes_seen size hidden links grs' ≡ on_nodes nis (λ i nd. with_gr_names (F nd.gr_names) nd) (nodes_seen size hidden links grs)
  regroup-seen F nis links grs grs' names = fun_ext (λ i. go i (ltb i size) (nis i) (names i))
    where
      go : (i : ℕ) (x y : Bool) → names_seen i grs' ≡ cond y (F (names_seen i grs)) (names_seen i grs)
          → cond x (some (node_seen hidden links grs' i)) none
          ≡ cond y (on_some (λ nd. with_gr_names (F nd.gr_names) nd) (cond x (some (node_seen hidden links grs i)) none))
          (cond x (some (node_seen hidden links grs i)) none)
      go i true true e = λ k. some (record { hidden = has hidden i; connections = has (word_at links i); gr_names = e k })
      go i true false e = λ k. some (record { hidden = has hidden i; connections = has (word_at links i); gr_names = e k })
      go i false true e = refl
      go i false false e = refl

-- ---- free groups

module _ (m : ℕ) (free : List ℕ) (small : m < 2 ^ node_limit) (long : length free ≡ node_limit) where
  -- the nodes of m leave
  pub leave-seen : free_seen (leave_free m free) ≡ (λ i. cond (has m i) nobody (free_seen free i ∖ has m))
  leave-seen = fun_ext (λ i. fun_ext (λ j. has-leave_free m free small long i j ∙ go i j (has m i)))
    where
      go : (i j : ℕ) (x : Bool) → not x && (has (get_or free i 0) j && not (has m j)) ≡ cond x nobody (has (get_or free i 0) ∖ has m) j
      go i j true = refl
      go i j false = refl

  -- the nodes of m are one free group
  pub join-seen : free_seen (one_free_group m free) ≡ Joined (has m) (free_seen free)
  join-seen = fun_ext (λ i. ap has (at-one_free_group m free small long i) ∙ go i (has m i))
    where
      go : (i : ℕ) (x : Bool) → has (cond x m (get_or free i 0)) ≡ cond x (has m) (has (get_or free i 0))
      go i true = refl
      go i false = refl
