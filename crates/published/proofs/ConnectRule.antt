-- AddConnections is the library's connection of two nodes. Assumes nothing.
use Rattle.std.specs.Prelude.{◌≡◌, ◌≢◌, Bool, ◌&&◌, ◌||◌, ltb, get_or}
use Rattle.std.proofs.Math.Path.{refl, ap, fun_ext}
use Rattle.std.proofs.Common.{sym, ap₂, ◌∙◌, true≢false, eqb-true, ne_eqb, lt-ltb}
use Rattle.std.proofs.Math.Bool.{true, false, not, cond, and-false, and_comm, or_self, and-eq-true_iff}
use Rattle.std.proofs.lemmas.Bool.{false≢true, eqb-false}
use Rattle.std.proofs.Math.Option.{Option, none, some}
use Prim.Native.Nat.{ℕ, ◌^◌, ◌<◌}
use Rattle.std.proofs.Math.Dec.{eqb}
use Rattle.std.proofs.Math.Pow.{pow-lt}
use Rattle.nodes.specs.Sets.{node_limit, has, single, union, empty}
use Rattle.nodes.specs.Bools.{and-follows}
use Rattle.nodes.proofs.SetLaws.{has-union, has-single, has-none, has-ext, union-lt}
use Rattle.semantics.specs.Sizes.{group_names}
use Rattle.semantics.specs.State.{Group, State, find, all_members, free_of}
use Rattle.semantics.specs.Steps.{link, merge, connect}
use Rattle.semantics.specs.Regular.{Met, Regular, loose}
use Rattle.semantics.specs.Truth.{or_cases}
use Rattle.semantics.specs.Groups.{of-found}
use Rattle.semantics.specs.Members.{in-word}
use Rattle.semantics.specs.FreeGroupsOfNodes.{has-free_nodes, loose_in, own_free, not-loose, free-lt}
use Rattle.published.specs.Published.{Set, Map, ◌∪◌, only, SGroup, Node, Published, those, with_free, IsSGroupSNode, IsSGroupNode, SameSGroup, Joined, InterConnectNodes, AddConnections}
use Rattle.published.proofs.SeenState.{seen, published}
use Rattle.published.proofs.SomeBelow.{any-hit, any_case}
use Rattle.published.proofs.GroupsSeen.{those-seen, on_some, member, groups_seen, free_seen, hidden_seen, nodes_seen, members-seen}
use Rattle.published.proofs.Rewired.{interconnect-idle, interconnect-seen, join-seen}

-- ---- free normal nodes

module _ {cap : ℕ} (st : State) (w : Regular cap st) where
  pub in-groups : (i : ℕ) → IsSGroupNode i (groups_seen st.groups) ≡ has (all_members st.groups) i
  in-groups i = members-seen cap st.size st.groups w.rising w.each i

  pub loose-is : (i : ℕ) → loose st i ≡ (ltb i st.size && not (has st.hidden i)) && not (IsSGroupNode i (groups_seen st.groups))
  loose-is i = has-free_nodes st i ∙ ap (λ (x : Bool). (ltb i st.size && not (has st.hidden i)) && not x) (sym (in-groups i))

  pub empty-free : (i : ℕ) → empty (free_of i st) ≡ not (loose st i)
  empty-free i = go (empty (free_of i st)) refl (loose st i) refl
    where
      go : (x : Bool) → empty (free_of i st) ≡ x → (y : Bool) → loose st i ≡ y → x ≡ not y
      go true e y q = ap not (sym (not-loose w i e) ∙ q)
      go false e true q = refl
      go false e false q = absurd (eqb-false (free_of i st) 0 e (has-ext (free_of i st) 0 (λ j. w.wires.frees i j ∙ rw q (sym (has-none j)))))

  -- a node's connections, as seen
  pub connected-seen : (i j : ℕ) → those (λ nd. nd.connections j) (nodes_seen st.size st.hidden st.links (groups_seen st.groups)) i
      ≡ has (get_or st.links i 0) j
  connected-seen i j =
      those-seen (λ nd. nd.connections j) st.size st.hidden st.links (groups_seen st.groups) i
      ∙ and_comm (ltb i st.size) (has (get_or st.links i 0) j)
      ∙ and-follows (has (get_or st.links i 0) j) (ltb i st.size) (λ h. lt-ltb i st.size (w.within j i (sym (w.wires.both_ways i j) ∙ h)))

module _ {cap : ℕ} (st : State) (w : Regular cap st) (a b : ℕ) (a_in : a < st.size) (b-in : b < st.size) where
  abbrev grs : Map SGroup
  grs = groups_seen st.groups

  abbrev nds : Map Node
  nds = nodes_seen st.size st.hidden st.links grs

  -- the state with these connected, and with these one free group
  abbrev linked_up : Set → Published
  linked_up nis = with_free (published st).fgs (InterConnectNodes nis (published st).nds) (published st)

  abbrev merged_up : Set → Published
  merged_up nis = with_free (Joined nis (published st).fgs) (InterConnectNodes nis (published st).nds) (published st)

  pair_set : has (union (single a) (single b)) ≡ only a ∪ only b
  pair_set = fun_ext (λ i. has-union (single a) (single b) i ∙ ap₂ (λ (x y : Bool). x || y) (has-single a i) (has-single b i))

  link-seen : published (link a b st) ≡ linked_up (only a ∪ only b)
  unfolding published
  link-seen = λ k. record {
    grs = grs;
    fgs = free_seen st.free;
    fhs = hidden_seen st.hidden grs;
    nds = (interconnect-seen st.size st.hidden (union (single a) (single b)) st.links grs
        (in-word w.size_high (union-lt st.size (single a) (single b) (pow-lt a_in) (pow-lt b-in))) w.links_long w.wires.no_self
        ∙ ap (λ (nis : Set). InterConnectNodes nis nds) pair_set) k;
  }

  abbrev one : ℕ
  one = union (free_of a st) (free_of b st)

  merge-seen : published (merge one st) ≡ merged_up (has (free_of a st) ∪ has (free_of b st))
  unfolding published
  merge-seen = λ k. record {
    grs = grs;
    fgs = (join-seen one st.free one_in w.free_long ∙ ap (λ (nis : Set). Joined nis (free_seen st.free)) one_set) k;
    fhs = hidden_seen st.hidden grs;
    nds = (interconnect-seen st.size st.hidden one st.links grs one_in w.links_long w.wires.no_self
        ∙ ap (λ (nis : Set). InterConnectNodes nis nds) one_set) k;
  }
    where
      one_in : one < 2 ^ node_limit
      one_in = in-word w.size_high (union-lt st.size (free_of a st) (free_of b st) (free-lt w a) (free-lt w b))

      one_set : has one ≡ has (free_of a st) ∪ has (free_of b st)
      one_set = fun_ext (has-union (free_of a st) (free_of b st))

  -- ---- where nothing is new

  idle : (nis : Set) → ((i j : ℕ) → nis i ≡ true → nis j ≡ true → i ≢ j → has (get_or st.links i 0) j ≡ true) → linked_up nis ≡ published st
  unfolding published
  idle nis met =
      ap (λ (m : Map Node). with_free (free_seen st.free) m (published st))
      (interconnect-idle nis nds (λ i. connected-seen st w i i ∙ w.wires.no_self i) (λ i j p q n. connected-seen st w i j ∙ met i j p q n))

  -- members of one s_group are connected, and not free
  together : SameSGroup a b grs ≡ true → (a ≢ b → has (get_or st.links a 0) b ≡ true) × (loose st a ≡ false)
  together h = any_case group_names (λ t. IsSGroupSNode a t grs && IsSGroupSNode b t grs) h λ t l e.
      let p = (and-eq-true_iff (member a (grs t)) (member b (grs t))).0 e in (
        λ n. linked t (find t st.groups) refl p.0 p.1 n,
        loose-is st w a ∙ rw (any-hit group_names (λ u. member a (grs u)) t l p.0) (and-false (ltb a st.size && not (has st.hidden a))),
      )
    where
      linked : (t : ℕ) (o : Option Group) → find t st.groups ≡ o → member a (on_some seen o) ≡ true → member b (on_some seen o) ≡ true → a ≢ b
          → has (get_or st.links a 0) b ≡ true
      linked t none e x y n = absurd (false≢true x)
      linked t (some g) e x y n = of-found t st.groups g e (Met st.links) w.met a b x y n

  pair-idle : (a ≢ b → has (get_or st.links a 0) b ≡ true) → linked_up (only a ∪ only b) ≡ published st
  pair-idle l = idle (only a ∪ only b) λ i j p q n.
      or_cases (eqb a i) (eqb b i) p
      (λ x. or_cases (eqb a j) (eqb b j) q
      (λ y. absurd (n (sym (eqb-true a i x) ∙ eqb-true a j y)))
      (λ y. tied i j (eqb-true a i x) (eqb-true b j y) n))
      (λ x. or_cases (eqb a j) (eqb b j) q
      (λ y. w.wires.both_ways i j ∙ tied j i (eqb-true a j y) (eqb-true b i x) (λ z. n (sym z)))
      (λ y. absurd (n (sym (eqb-true b i x) ∙ eqb-true b j y))))
    where
      tied : (i j : ℕ) → a ≡ i → b ≡ j → i ≢ j → has (get_or st.links i 0) j ≡ true
      tied i j x y n = ap₂ (λ (u v : ℕ). has (get_or st.links u 0) v) (sym x) (sym y) ∙ l (λ z. n (sym x ∙ z ∙ y))

  -- in one free group
  merge-idle : has (free_of a st) b ≡ true → merged_up (has (free_of a st) ∪ has (free_of b st)) ≡ published st
  unfolding published
  merge-idle h =
      ap merged_up (fun_ext (λ i. ap (λ (m : ℕ). has (free_of a st) i || has m i) (sym (w.wires.classes a b h)) ∙ or_self (has (free_of a st) i)))
      ∙ ap (λ (f : ℕ → Set). with_free f (InterConnectNodes (has (free_of a st)) nds) (published st)) (fun_ext (λ i. own i (has (free_of a st) i) refl))
      ∙ idle (has (free_of a st)) met
    where
      own : (i : ℕ) (x : Bool) → has (free_of a st) i ≡ x → cond x (has (free_of a st)) (free_seen st.free i) ≡ free_seen st.free i
      own i true e = ap has (w.wires.classes a i e)
      own i false e = refl

      met : (i j : ℕ) → has (free_of a st) i ≡ true → has (free_of a st) j ≡ true → i ≢ j → has (get_or st.links i 0) j ≡ true
      met i j p q n =
          let r : loose st i && (loose st j && (eqb i j || has (get_or st.links i 0) j)) ≡ true =
          sym (w.wires.frees i j) ∙ ap (λ (m : ℕ). has m j) (sym (w.wires.classes a i p)) ∙ q in
          ap (λ (x : Bool). x || has (get_or st.links i 0) j) (sym (ne_eqb i j n))
          ∙ ((and-eq-true_iff (loose st j) _).0 ((and-eq-true_iff (loose st i) _).0 r).1).1

  -- ---- the cases

  -- without an s_group in common, 000's second test says that one of the two is no free normal node
  second : SameSGroup a b grs ≡ false
      → (IsSGroupNode a grs && not (SameSGroup a b grs)) || hidden_seen st.hidden grs a || (loose st a && not (loose st b))
      ≡ not (loose st a && loose st b)
  second h = rw (h, loose-is st w a, lt-ltb a st.size a_in) (go (has st.hidden a) (IsSGroupNode a grs) (loose st b))
    where
      go : (h g l : Bool) → (g && true) || (h && not g) || ((not h && not g) && not l) ≡ not ((not h && not g) && l)
      go true true l = refl
      go true false l = refl
      go false true l = refl
      go false false l = refl

  pub connects : published (connect a b st) ≡ AddConnections a b (published st)
  unfolding published connect AddConnections
  connects =
      rw (empty-free st w a, empty-free st w b, own_free w a, own_free w b)
      (go (eqb a b) refl (has (free_of a st) b) refl (SameSGroup a b grs) refl (loose st a) refl (loose st b) refl _ second)
    where
      go : (e : Bool) → eqb a b ≡ e → (sf : Bool) → has (free_of a st) b ≡ sf → (ss : Bool) → SameSGroup a b grs ≡ ss
          → (la : Bool) → loose st a ≡ la → (lb : Bool) → loose st b ≡ lb → (t : Bool) → (ss ≡ false → t ≡ not (la && lb))
          → published (cond e st (cond (not la || not lb) (link a b st) (merge one st)))
          ≡ cond (sf || ss) (published st) (cond t (linked_up (only a ∪ only b))
          (cond (la && lb) (merged_up (has (free_of a st) ∪ has (free_of b st))) (published st)))
      go true p true q ss r la x lb y t z = refl
      go true p false q true r la x lb y t z = refl
      go true p false q false r true x lb y t z = absurd (false≢true (sym q ∙ ap (has (free_of a st)) (sym (eqb-true a b p)) ∙ own_free w a ∙ x))
      go true p false q false r false x lb y t z = rw (z refl) (sym (pair-idle (λ n. absurd (n (eqb-true a b p)))))
      go false p true q ss r true x true y t z = merge-seen ∙ merge-idle q
      go false p true q ss r true x false y t z = absurd (false≢true (sym y ∙ loose_in w a b q))
      go false p true q ss r false x lb y t z = absurd (false≢true (sym x ∙ ((and-eq-true_iff (loose st a) _).0 (sym (w.wires.frees a b) ∙ q)).0))
      go false p false q true r true x lb y t z = absurd (true≢false (sym x ∙ (together r).1))
      go false p false q true r false x lb y t z = link-seen ∙ pair-idle (together r).0
      go false p false q false r true x true y t z = rw (z refl) merge-seen
      go false p false q false r true x false y t z = rw (z refl) link-seen
      go false p false q false r false x lb y t z = rw (z refl) link-seen
