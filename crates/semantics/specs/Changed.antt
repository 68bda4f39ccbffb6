-- What a command does to the s_group that it names keeps a regular state regular. Assumes nothing.
use Rattle.std.specs.Prelude.{◌≡◌, ◌≢◌, Bool, true, false, not, ◌&&◌, ◌||◌, length}
use Rattle.std.proofs.Math.Path.{sym, ap}
use Rattle.std.proofs.Common.{◌∙◌, arith}
use Rattle.std.proofs.Math.Bool.{and-false, or_assoc}
use Rattle.std.proofs.Math.Option.{none, some}
use mathlib.Core.List.{List, []}
use Prim.Native.Nat.{ℕ, ◌^◌, ◌≤◌, ◌<◌}
use Rattle.nodes.specs.Sets.{node_limit, has, roster, union, diff}
use Rattle.nodes.proofs.SetLaws.{has-union, has-ext, union-lt, subset-union, subset-le}
use Rattle.entries.specs.Entries.{Entry}
use Rattle.entries.specs.NamespaceSound as Namespace
use Rattle.semantics.specs.Sizes.{group_limit, group_names}
use Rattle.semantics.specs.State.{Group, State, with_groups, with_links, with_free, find, put, add_group, drop_group, all_members}
use Rattle.semantics.specs.Steps.{hold, join, create, interconnect, leave_free, apply}
use Rattle.semantics.specs.Regular.{Every, Rising, RegularGroup, Met, Wired, Regular, loose}
use Rattle.semantics.specs.Truth.{or_cases}
use Rattle.semantics.specs.Members.{in-word, length-interconnect, length-leave_free, linked-still, linked-now, linked-within}
use Rattle.semantics.specs.Wires.{wired-same, wired-meet-leave}
use Rattle.semantics.specs.Groups.{Found, found, found_name, of-found, every_map, every-put, every-add, rising-put, rising-add, length-put, length-add_group, all-add, all_found, all-put, in_all}
use Rattle.semantics.specs.FreeGroupsOfNodes.{loose_in-none, loose-fewer}

-- the nodes of m meet, and s_groups and free groups are others
pub regular-rewired : {cap : ℕ} {st : State} → Regular cap st → (m : ℕ) (gs : List Group) (free : List ℕ) → m < 2 ^ st.size
    → length gs ≤ group_limit → Rising 0 gs → Every (RegularGroup cap st.size) gs → Every (Met (interconnect m st.links)) gs
    → length free ≡ node_limit → Wired (loose (with_groups gs st)) (interconnect m st.links) free
    → Regular cap (with_groups gs (with_free free (with_links (interconnect m st.links) st)))
regular-rewired {st = st} w m gs free h few rising each met long wires =
    record {
      size_low = w.size_low;
      size_high = w.size_high;
      hidden_in = w.hidden_in;
      groups_few = few;
      rising = rising;
      each = each;
      links_long = length-interconnect m st.links ∙ w.links_long;
      free_long = long;
      within = linked-within m st.links (in-word w.size_high h) w.links_long st.size h w.within;
      met = met;
      wires = wires;
    }

-- members that were connected are, when the nodes of m meet
pub met-still : {cap : ℕ} {st : State} → Regular cap st → (m : ℕ) → m < 2 ^ st.size → (g : Group) → Met st.links g → Met (interconnect m st.links) g
met-still {st = st} w m h g p i j a b n = linked-still m st.links (in-word w.size_high h) w.links_long i j (p i j a b n)

module _ {cap : ℕ} {st : State} (w : Regular cap st) (s : ℕ) (g : Group) (f : find s st.groups ≡ some g) where
  -- where it stands
  pub place : Found s st.groups g
  place = found s 0 st.groups g w.rising f

  pub regular-found : RegularGroup cap st.size g
  regular-found = of-found s st.groups g f (RegularGroup cap st.size) w.each

  pub small-name : s < group_names
  small-name = rw (found_name s st.groups g f) at regular-found.small

  -- ---- other names

  pub regular-hold : (ns : List Entry) → Namespace.Sound cap st.size ns → Regular cap (apply s (hold g.members ns) st)
  unfolding apply
  regular-hold ns h =
      record {
        size_low = w.size_low;
        size_high = w.size_high;
        hidden_in = w.hidden_in;
        groups_few = omega (arith, length-put s g.members ns st.groups, w.groups_few);
        rising = rising-put s g.members ns 0 st.groups w.rising;
        each = every-put (RegularGroup cap st.size) (RegularGroup cap st.size) s g.members ns (λ k p. p)
            (record { small = small-name; some_member = regular-found.some_member; on_roster = regular-found.on_roster; names_sound = h }) st.groups w.each;
        links_long = w.links_long;
        free_long = w.free_long;
        within = w.within;
        met = every-put (Met st.links) (Met st.links) s g.members ns (λ k p. p) (of-found s st.groups g f (Met st.links) w.met) st.groups w.met;
        wires = wired-same (loose st) _ st.links st.free (λ i. ap (λ (a : ℕ). has (diff (diff (roster st.size) st.hidden) a) i) (same ns)) w.wires;
      }
    where
      same : (ns : List Entry) → all_members st.groups ≡ all_members (put s g.members ns st.groups)
      same ns = has-ext _ _ (λ i. all_found s st.groups g place i ∙ sym (all-put s st.groups g place g.members ns i))

  -- ---- more members

  pub regular-join : (set : ℕ) → set < 2 ^ st.size → Regular cap (apply s (join set (union g.members set) g.names) st)
  unfolding apply
  regular-join set h =
      let m : ℕ = union g.members set in
      let mb : m < 2 ^ st.size = union-lt st.size g.members set regular-found.on_roster h in
      let mw : m < 2 ^ node_limit = in-word w.size_high mb in
      regular-rewired w m (put s m g.names st.groups) (leave_free set st.free) mb
      (omega (arith, length-put s m g.names st.groups, w.groups_few))
      (rising-put s m g.names 0 st.groups w.rising)
      (every-put (RegularGroup cap st.size) (RegularGroup cap st.size) s m g.names (λ k p. p)
      (record {
        small = small-name;
        some_member = λ e. regular-found.some_member (omega (arith, e, subset-le g.members m (subset-union g.members set)));
        on_roster = mb;
        names_sound = regular-found.names_sound;
      }) st.groups w.each)
      (every-put (Met st.links) (Met (interconnect m st.links)) s m g.names (met-still w m mb) (linked-now m st.links mw w.links_long) st.groups w.met)
      (length-leave_free set st.free ∙ w.free_long)
      (wired-meet-leave (loose st) _ m set st.links st.free mw (in-word w.size_high h) w.links_long w.free_long
      (λ i. loose-fewer st (put s m g.names st.groups) set i (more set i)) (tied set) w.wires)
    where
      more : (set i : ℕ) → has (all_members (put s (union g.members set) g.names st.groups)) i ≡ has (all_members st.groups) i || has set i
      more set i =
          all-put s st.groups g place (union g.members set) g.names i
          ∙ rw has-union (sym (or_assoc (has (all_members (drop_group s st.groups)) i) (has g.members i) (has set i)))
          ∙ ap (λ (x : Bool). x || has set i) (sym (all_found s st.groups g place i))

      tied : (set i : ℕ) → has (union g.members set) i ≡ true → loose st i && not (has set i) ≡ false
      tied set i e =
          or_cases _ _ (sym (has-union g.members set i) ∙ e)
          (λ p. ap (λ (x : Bool). x && not (has set i)) (loose_in-none st i (in_all s st.groups g place i p)))
          (λ p. rw p (and-false (loose st i)))

-- ---- one s_group more

no_names : (cap size : ℕ) → Namespace.Sound cap size []
unfolding Namespace.Ascending Namespace.Distinct Namespace.Hosted
no_names cap size = record { room = omega arith; names = tt; pids = tt; hosts = tt }

pub regular-create : {cap : ℕ} {st : State} → Regular cap st → (s : ℕ) → find s st.groups ≡ none → 0 < s → s < group_names
    → length st.groups < group_limit → (set : ℕ) → set < 2 ^ st.size → set ≢ 0 → Regular cap (apply s (create set) st)
unfolding apply
regular-create {cap = cap} {st = st} w s f low small room set h manned =
    let g : Group = record { name = s; members = set; names = [] } in
    let sw : set < 2 ^ node_limit = in-word w.size_high h in
    regular-rewired w set (add_group g st.groups) (leave_free set st.free) h
    (omega (arith, length-add_group g st.groups))
    (rising-add g 0 st.groups low f w.rising)
    (every-add (RegularGroup cap st.size) g st.groups
    (record { small = small; some_member = manned; on_roster = h; names_sound = no_names cap st.size }) w.each)
    (every-add (Met (interconnect set st.links)) g st.groups (linked-now set st.links sw w.links_long)
    (every_map (Met st.links) (Met (interconnect set st.links)) (met-still w set h) st.groups w.met))
    (length-leave_free set st.free ∙ w.free_long)
    (wired-meet-leave (loose st) _ set set st.links st.free sw sw w.links_long w.free_long
    (λ i. loose-fewer st (add_group g st.groups) set i (all-add g st.groups i)) (λ i e. rw e (and-false (loose st i))) w.wires)
