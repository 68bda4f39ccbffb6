-- delete_s_group and remove_nodes are the published ones: what NewFreeNodes gives is what is seen when nodes have become free. Assumes nothing.
use Rattle.std.specs.Prelude.{◌≡◌, ◌≢◌, Bool, not, ◌&&◌, ◌||◌, List, ℕ, ◌^◌, ◌<◌, eqb, length, get_or}
use Rattle.std.proofs.Math.Path.{refl, sym, ap, ap₂, fun_ext}
use Rattle.std.proofs.Common.{◌∙◌, arith, lt_of_le_of_lt}
use Rattle.std.proofs.Math.Bool.{true, false, cond, and-true, and-false, and_self, and-not_self, and-eq-true_iff, or_comm}
use Rattle.std.proofs.lemmas.Bool.{false≢true}
use Rattle.std.proofs.Math.Option.{Option, none, some}
use Rattle.std.proofs.Math.Dec.{ltb}
use borrow.Author.Tests.{eqb-true, eq-eqb, ltb-true, lt-ltb, not-true}
use Rattle.nodes.specs.Sets.{node_limit, has, empty, union, inter, diff}
use Rattle.nodes.proofs.SetLaws.{has-union, has-inter, has_diff, has-none, has-below, below-pow, union-lt, inter-le-l, inter-le-r, diff-le}
use Rattle.entries.specs.Entries.{lookup}
use Rattle.semantics.specs.State.{Group, State, free_of, find, put, drop_group, all_members}
use Rattle.semantics.specs.Ranges.{held}
use Rattle.semantics.specs.Steps.{lot, touched, become_free, kept_names, left_in}
use Rattle.semantics.specs.Regular.{Met, Regular, loose}
use Rattle.semantics.specs.Groups.{of-found}
use Rattle.semantics.specs.Members.{in-word}
use Rattle.semantics.specs.FreeGroupsOfNodes.{loose-on_roster, loose_in, own_free}
use Rattle.semantics.specs.Changed.{regular-found}
use Rattle.semantics.proofs.Freed.{touched-in, touched_out, regular-delete, regular-remove, regular-empty}
use Rattle.published.specs.Published.{Set, Map, of_some, ◌∖◌, ◌∩◌, any, with_at, less_at, Namespace, SGroup, GrNames, Node, Published, those, with_gr_names, IsSGroupNode, InterConnectNodes, Joined, LessSGroupS, RemoveSGroup, left_none, leaving, less_hosted, less_members}
use Rattle.published.proofs.SeenState.{seen, published, names_seen}
use Rattle.published.proofs.SomeBelow.{any-hit, any-is, any-has}
use Rattle.published.proofs.GroupsSeen.{on_some, member, groups_seen, free_seen, hidden_seen, node_seen, nodes_seen, put-seen, drop-seen, members-seen}
use Rattle.published.proofs.NamesSeen.{drop_hosted-seen}
use Rattle.published.proofs.Rewired.{interconnect-seen, join-seen}
use Rattle.published.proofs.Joining.{name-low}
use Rattle.published.proofs.Parting.{left_names, names-left, left-last, in-or-left}
use Rattle.published.proofs.Merging.{to_NoGroup, new_hidden, new_normal, touching, merging, in_one, one-case}

-- ---- the state when nodes have become free

module _ {cap : ℕ} (st : State) (w : Regular cap st) (gone : ℕ) (gs : List Group) (v : Regular cap (become_free gone gs st)) (s : ℕ) (nis : Set)
    (fewer : (i t : ℕ) → member i (groups_seen gs t) ≡ member i (groups_seen st.groups t) && not (nis i && eqb s t))
    (gone-is : (i : ℕ) → has gone i ≡ member i (groups_seen st.groups s) && nis i) (gone-in : gone < 2 ^ st.size)
    (gone-met : (i j : ℕ) → has gone i ≡ true → has gone j ≡ true → i ≢ j → has (get_or st.links i 0) j ≡ true) where
  abbrev grs : Map SGroup
  grs = groups_seen st.groups

  abbrev grs' : Map SGroup
  grs' = groups_seen gs

  -- a node, less s
  abbrev less_s : Node → Node
  less_s nd = with_gr_names (LessSGroupS s nd.gr_names) nd

  -- the nodes, less s
  abbrev fewer_nds : Map Node
  fewer_nds = RemoveSGroup s nis (nodes_seen st.size st.hidden st.links grs)

  abbrev names_of : ℕ → GrNames
  names_of = left_names grs grs' s nis fewer (name-low w)

  abbrev one : ℕ
  one = union (lot gone gs st) (touched (lot gone gs st) st)

  in-groups : (i : ℕ) → IsSGroupNode i grs' ≡ has (all_members gs) i
  unfolding become_free
  in-groups i = members-seen cap st.size gs v.rising v.each i

  -- a test of a node less s
  those-left : (f : Node → Bool) (i : ℕ)
      → those f fewer_nds i ≡ ltb i st.size && f (with_gr_names (names_of i) (node_seen st.hidden st.links grs i))
  those-left f i = go (nis i) (ltb i st.size)
    where
      go : (x y : Bool)
          → of_some false f (cond x (on_some less_s (cond y (some (node_seen st.hidden st.links grs i)) none))
          (cond y (some (node_seen st.hidden st.links grs i)) none))
          ≡ y && f (with_gr_names (cond x (LessSGroupS s (names_seen i grs)) (names_seen i grs)) (node_seen st.hidden st.links grs i))
      go true true = refl
      go true false = refl
      go false true = refl
      go false false = refl

  on_roster : (i : ℕ) → has gone i ≡ true → ltb i st.size ≡ true
  on_roster i h = lt-ltb i st.size (has-below gone st.size i gone-in h)

  in-lot : (i : ℕ) → has (lot gone gs st) i ≡ (has gone i && not (has (all_members gs) i)) && not (has st.hidden i)
  in-lot i =
      has_diff (diff gone (all_members gs)) st.hidden i ∙ ap (λ (x : Bool). x && not (has st.hidden i)) (has_diff gone (all_members gs) i)

  of-lot : (i : ℕ) → has (lot gone gs st) i ≡ true → has gone i ≡ true
  of-lot i h = ((and-eq-true_iff (has gone i) _).0 ((and-eq-true_iff (has gone i && not (has (all_members gs) i)) _).0 (sym (in-lot i) ∙ h)).0).0

  -- who is left with none: who has gone and is in no s_group
  freed : (i : ℕ) → left_none (names_of i) ≡ has gone i && not (has (all_members gs) i)
  freed i = left-last grs grs' s nis fewer (name-low w) i ∙ ap₂ (λ (x y : Bool). x && not y) (sym (gone-is i)) (in-groups i)

  normal-seen : (i : ℕ) → new_normal fewer_nds i ≡ has (lot gone gs st) i
  normal-seen i =
      those-left (λ nd. left_none nd.gr_names && not nd.hidden) i
      ∙ ap (λ (x : Bool). ltb i st.size && (x && not (has st.hidden i))) (freed i)
      ∙ go (ltb i st.size) (has gone i) (has (all_members gs) i) (has st.hidden i) (on_roster i) ∙ sym (in-lot i)
    where
      go : (l g a h : Bool) → (g ≡ true → l ≡ true) → l && ((g && not a) && not h) ≡ (g && not a) && not h
      go true g a h k = refl
      go false true a h k = absurd (false≢true (k refl))
      go false false a h k = refl

  hidden-freed : (i : ℕ) → hidden_seen st.hidden grs i || new_hidden fewer_nds i ≡ hidden_seen st.hidden grs' i
  hidden-freed i =
      ap₂ (λ (x y : Bool). (has st.hidden i && not x) || y)
      (in-or-left grs grs' s nis fewer (name-low w) i ∙ ap₂ (λ (x y : Bool). x || y) (in-groups i) (sym (gone-is i)))
      (those-left (λ nd. left_none nd.gr_names && nd.hidden) i ∙ ap (λ (x : Bool). ltb i st.size && (x && has st.hidden i)) (freed i))
      ∙ go (ltb i st.size) (has gone i) (has (all_members gs) i) (has st.hidden i) (on_roster i)
      ∙ ap (λ (x : Bool). has st.hidden i && not x) (sym (in-groups i))
    where
      go : (l g a h : Bool) → (g ≡ true → l ≡ true) → (h && not (a || g)) || (l && ((g && not a) && h)) ≡ h && not a
      go true true true true k = refl
      go true true true false k = refl
      go true true false true k = refl
      go true true false false k = refl
      go true false true true k = refl
      go true false true false k = refl
      go true false false true k = refl
      go true false false false k = refl
      go false true a h k = absurd (false≢true (k refl))
      go false false true true k = refl
      go false false true false k = refl
      go false false false true k = refl
      go false false false false k = refl

  connected-left : (i k : ℕ) → those (λ nd. nd.connections k) fewer_nds i ≡ ltb i st.size && has (get_or st.links i 0) k
  connected-left i k = those-left (λ nd. nd.connections k) i

  -- ---- the nodes that become one free group

  same-long : length st.links ≡ length st.free
  same-long = w.links_long ∙ sym w.free_long

  lot-in : lot gone gs st < 2 ^ st.size
  lot-in = below-pow (lot gone gs st) st.size (λ i h. ltb-true i st.size (on_roster i (of-lot i h)))

  -- whether k is connected with one of the lot
  near-lot : (k : ℕ) → any node_limit (λ i. new_normal fewer_nds i && those (λ nd. nd.connections k) fewer_nds i)
      ≡ not (empty (inter (get_or st.links k 0) (lot gone gs st)))
  near-lot k =
      ap (any node_limit) (fun_ext (λ i.
      ap₂ (λ (x y : Bool). x && y) (normal-seen i) (connected-left i k ∙ ap (λ (x : Bool). ltb i st.size && x) (w.wires.both_ways i k))
      ∙ go (has (lot gone gs st) i) (ltb i st.size) (has (get_or st.links k 0) i) (λ h. on_roster i (of-lot i h))
      ∙ sym (has-inter (get_or st.links k 0) (lot gone gs st) i)))
      ∙ any-has (inter (get_or st.links k 0) (lot gone gs st))
      (lt_of_le_of_lt (inter-le-r (get_or st.links k 0) (lot gone gs st)) (in-word w.size_high lot-in))
    where
      go : (x l y : Bool) → (x ≡ true → l ≡ true) → x && (l && y) ≡ y && x
      go true true y h = sym (and-true y)
      go true false y h = absurd (false≢true (h refl))
      go false l y h = sym (and-false y)

  found-seen : (j : ℕ) → any node_limit (λ k. touching (free_seen st.free) fewer_nds k && free_seen st.free k j) ≡ has (touched (lot gone gs st) st) j
  found-seen j =
      any-is node_limit _ _
      (λ k l e.
      let p = (and-eq-true_iff (touching (free_seen st.free) fewer_nds k) (free_seen st.free k j)).0 e in
      let q = (and-eq-true_iff (has (free_of k st) k) _).0 p.0 in
      touched-in (lot gone gs st) st same-long k j (not-true (empty (inter (get_or st.links k 0) (lot gone gs st))) (sym (near-lot k) ∙ q.1)) p.1)
      (λ h.
      let q = touched_out (lot gone gs st) st same-long j h in
      let own : loose st q.0 ≡ true = ((and-eq-true_iff (loose st q.0) _).0 (sym (w.wires.frees q.0 j) ∙ q.2)).0 in
      any-hit node_limit _ q.0 (omega (arith, loose-on_roster st q.0 own, w.size_high))
      (ap₂ (λ (x y : Bool). x && y) (ap₂ (λ (x y : Bool). x && y) (own_free w q.0 ∙ own) (near-lot q.0 ∙ ap not q.1)) q.2))

  one_set : has one ≡ merging (free_seen st.free) fewer_nds
  one_set =
      fun_ext (λ j.
      has-union (lot gone gs st) (touched (lot gone gs st) st) j ∙ or_comm (has (lot gone gs st) j) (has (touched (lot gone gs st) st) j)
      ∙ sym (ap₂ (λ (x y : Bool). x || y) (found-seen j) (normal-seen j)))

  one_in : one < 2 ^ node_limit
  one_in = in-word w.size_high (union-lt st.size (lot gone gs st) (touched (lot gone gs st) st) lot-in
      (below-pow (touched (lot gone gs st) st) st.size
      (λ i h. let q = touched_out (lot gone gs st) st same-long i h in loose-on_roster st i (loose_in w q.0 i q.2))))

  -- ---- the state

  -- the state before NewFreeNodes
  abbrev before : Published
  before = record { grs = grs'; fgs = free_seen st.free; fhs = hidden_seen st.hidden grs; nds = fewer_nds }

  merged-seen : published (become_free gone gs st) ≡ in_one before
  unfolding published become_free
  merged-seen =
      λ k. record {
        grs = grs';
        fgs = (join-seen one st.free one_in w.free_long ∙ ap (λ (nis : Set). Joined nis (free_seen st.free)) one_set) k;
        fhs = fun_ext (λ i. sym (hidden-freed i)) k;
        nds = (interconnect-seen st.size st.hidden one st.links grs' one_in w.links_long w.wires.no_self
            ∙ ap₂ InterConnectNodes one_set (fun_ext (λ i. node_at i (ltb i st.size) (nis i) (names-left grs grs' s nis fewer (name-low w) i)))) k;
      }
    where
      node_at : (i : ℕ) (x y : Bool) → to_NoGroup (cond y (LessSGroupS s (names_seen i grs)) (names_seen i grs)) ≡ names_seen i grs'
          → cond x (some (node_seen st.hidden st.links grs' i)) none
          ≡ on_some (λ nd. with_gr_names (to_NoGroup nd.gr_names) nd) (cond y
          (on_some less_s (cond x (some (node_seen st.hidden st.links grs i)) none))
          (cond x (some (node_seen st.hidden st.links grs i)) none))
      node_at i true true e = λ k. some (record { hidden = has st.hidden i; connections = has (get_or st.links i 0); gr_names = sym e k })
      node_at i true false e = λ k. some (record { hidden = has st.hidden i; connections = has (get_or st.links i 0); gr_names = sym e k })
      node_at i false true e = refl
      node_at i false false e = refl

  freed-seen : published (become_free gone gs st) ≡ leaving s nis grs' (published st)
  unfolding published
  freed-seen = merged-seen ∙ sym (one-case before
      (λ i h. omega (arith, ltb-true i st.size (is-left i h), w.size_high))
      (λ i. connected-left i i ∙ ap (λ (x : Bool). ltb i st.size && x) (w.wires.no_self i) ∙ and-false (ltb i st.size))
      (λ i j p q n.
      let a : has gone i ≡ true = of-lot i (sym (normal-seen i) ∙ p) in
      let b : has gone j ≡ true = of-lot j (sym (normal-seen j) ∙ q) in
      connected-left i j ∙ ap₂ (λ (x y : Bool). x && y) (on_roster i a) (gone-met i j a b n)))
    where
      those-held : (o : Option Node) → of_some false (λ nd. true) o ≡ held o
      those-held none = refl
      those-held (some nd) = refl

      is-left : (i : ℕ) → held (fewer_nds i) ≡ true → ltb i st.size ≡ true
      is-left i h = ((and-eq-true_iff (ltb i st.size) true).0 (sym (those-left (λ nd. true) i) ∙ those-held (fewer_nds i) ∙ h)).0

-- ---- the two commands

module _ {cap : ℕ} (st : State) (w : Regular cap st) (s : ℕ) (g : Group) (f : find s st.groups ≡ some g) where
  here : (i t : ℕ) → eqb s t ≡ true → member i (groups_seen st.groups t) ≡ has g.members i
  here i t e = ap (λ (o : Option Group). member i (on_some seen o)) (ap (λ (u : ℕ). find u st.groups) (sym (eqb-true s t e)) ∙ f)

  all-met : (i j : ℕ) → has g.members i ≡ true → has g.members j ≡ true → i ≢ j → has (get_or st.links i 0) j ≡ true
  all-met = of-found s st.groups g f (Met st.links) w.met

  -- all members leave
  dropped : (nis : Set) → ((i : ℕ) → has g.members i && not (nis i) ≡ false) → (i t : ℕ)
      → member i (groups_seen (drop_group s st.groups) t) ≡ member i (groups_seen st.groups t) && not (nis i && eqb s t)
  dropped nis all i t = ap (λ (x : Map SGroup). member i (x t)) (drop-seen s st.groups) ∙ go (eqb s t) refl
    where
      go : (x : Bool) → eqb s t ≡ x → member i (cond x none (groups_seen st.groups t)) ≡ member i (groups_seen st.groups t) && not (nis i && x)
      go true e = sym (rw (here i t e, and-true (nis i)) (all i))
      go false e = sym (rw (and-false (nis i)) (and-true (member i (groups_seen st.groups t))))

  pub deletes : published (become_free g.members (drop_group s st.groups) st)
      ≡ leaving s (has g.members) (less_at s (published st).grs) (published st)
  unfolding published
  deletes =
      freed-seen st w g.members (drop_group s st.groups) (regular-delete w s g f) s (has g.members)
      (dropped (has g.members) (λ i. and-not_self (has g.members i)))
      (λ i. sym (ap (λ (x : Bool). x && has g.members i) (here i s (eq-eqb s s refl)) ∙ and_self (has g.members i)))
      (regular-found w s g f).on_roster all-met
      ∙ ap (λ (x : Map SGroup). leaving s (has g.members) x (published st)) (drop-seen s st.groups)

  module _ (set : ℕ) where
    gone-is : (i : ℕ) → has (inter g.members set) i ≡ member i (groups_seen st.groups s) && has set i
    gone-is i = has-inter g.members set i ∙ ap (λ (x : Bool). x && has set i) (sym (here i s (eq-eqb s s refl)))

    gone-met : (i j : ℕ) → has (inter g.members set) i ≡ true → has (inter g.members set) j ≡ true → i ≢ j → has (get_or st.links i 0) j ≡ true
    gone-met i j p q n = all-met i j (own i p) (own j q) n
      where
        own : (i : ℕ) → has (inter g.members set) i ≡ true → has g.members i ≡ true
        own i h = ((and-eq-true_iff (has g.members i) (has set i)).0 (sym (has-inter g.members set i) ∙ h)).0

    shrunk : (ns : Namespace) (i t : ℕ) (x : Bool) → eqb s t ≡ x
        → member i (cond x (some (record { nodes = has (diff g.members set); namespace = ns })) (groups_seen st.groups t))
        ≡ member i (groups_seen st.groups t) && not (has set i && x)
    shrunk ns i t true e = has_diff g.members set i ∙ sym (rw (here i t e, and-true (has set i)))
    shrunk ns i t false e = sym (rw (and-false (has set i)) (and-true (member i (groups_seen st.groups t))))

    kept_seen : (λ n. lookup n (kept_names set g)) ≡ less_hosted (has g.members ∩ has set) (λ n. lookup n g.names)
    kept_seen =
        fun_ext (drop_hosted-seen (inter g.members set) g.names (regular-found w s g f).names_sound.names)
        ∙ ap (λ (nis : Set). less_hosted nis (λ n. lookup n g.names)) (fun_ext (has-inter g.members set))

    -- the s_groups when the set has left, and whether some are left in g
    abbrev rest : Bool → Map SGroup
    rest x =
        cond x (with_at s (record { nodes = has g.members ∖ has set; namespace = less_hosted (has g.members ∩ has set) (λ n. lookup n g.names) }) (published st).grs)
        (less_at s (published st).grs)

    by-rest : (x : Bool) → empty (diff g.members set) ≡ x
        → published (become_free (inter g.members set) (cond x (drop_group s st.groups) (put s (diff g.members set) (kept_names set g) st.groups)) st)
        ≡ leaving s (has set) (rest (not x)) (published st)
    unfolding published
    by-rest true e =
        freed-seen st w (inter g.members set) (drop_group s st.groups) (regular-empty w s g f set e) s (has set)
        (dropped (has set) (λ i. sym (has_diff g.members set i) ∙ ap (λ (m : ℕ). has m i) (eqb-true (diff g.members set) 0 e) ∙ has-none i))
        gone-is (lt_of_le_of_lt (inter-le-l g.members set) (regular-found w s g f).on_roster) gone-met
        ∙ ap (λ (x : Map SGroup). leaving s (has set) x (published st)) (drop-seen s st.groups)
    by-rest false e =
        freed-seen st w (inter g.members set) (put s (diff g.members set) (kept_names set g) st.groups) (regular-remove w s g f set e) s (has set)
        (λ i t. ap (member i) (put-seen s st.groups g f (diff g.members set) (kept_names set g) t) ∙ shrunk _ i t (eqb s t) refl)
        gone-is (lt_of_le_of_lt (inter-le-l g.members set) (regular-found w s g f).on_roster) gone-met
        ∙ ap (λ (x : Map SGroup). leaving s (has set) x (published st)) (fun_ext (put-seen s st.groups g f (diff g.members set) (kept_names set g))
        ∙ ap₂ (λ (nis : Set) (ns : Namespace). with_at s (record { nodes = nis; namespace = ns }) (groups_seen st.groups))
        (fun_ext (has_diff g.members set)) kept_seen)

    some_left : any node_limit (has g.members ∖ has set) ≡ not (empty (diff g.members set))
    some_left =
        ap (any node_limit) (sym (fun_ext (has_diff g.members set)))
        ∙ any-has (diff g.members set) (in-word w.size_high (lt_of_le_of_lt (diff-le g.members set) (regular-found w s g f).on_roster))

    pub removes : published (become_free (inter g.members set) (left_in s set g st.groups) st)
        ≡ leaving s (has set) (less_members s (has set) (seen g) (published st).grs) (published st)
    removes = by-rest (empty (diff g.members set)) refl ∙ ap (λ (x : Bool). leaving s (has set) (rest x) (published st)) (sym some_left)
