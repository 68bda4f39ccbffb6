-- A state's table gives the state back, and has the table's length. Assumes nothing.
use Rattle.std.specs.Prelude.{◌≡◌, refl, ℕ, ◌-◌, ◌*◌, ◌/◌, ◌≤◌, ◌<◌, get_or, take, drop, replicate}
use Rattle.std.proofs.Common.{ap, ap₂, ◌∙◌, arith, lit<, drop_at}
use mathlib.Core.List.{List, [], ◌∷◌, ◌++◌, map, append_assoc}
use Rattle.std.proofs.Math.ListN.{length, length-map}
use Rattle.entries.specs.Entries.{words, entries}
use Rattle.entries.specs.Storage.{length-words, entries-words}
use Rattle.semantics.specs.Sizes.{group_limit, group_names, contents_at, members_at, bodies_at, table_words}
use Rattle.semantics.specs.State.{Group, State}
use Rattle.semantics.specs.Table.{contents, bodies, cat, sections, layout, groups_of, state_of}
use Rattle.semantics.specs.Regular.{Every, RegularGroup, Regular}
use Rattle.semantics.specs.Groups.{every_map}
use Rattle.semantics.specs.Padding.{take-pad}
use Rattle.semantics.specs.Places.{contents-name, contents-count}
use Rattle.semantics.specs.Bodies.{entries_front}
use Rattle.semantics.specs.Sections.{onward}
use Rattle.semantics.specs.WordsOfState.{Sized, Laid, laid, length-of, size_is, hidden-is, count-is, links-are, free-are}

-- the s_group can be read back from its words
pub record Readable (cap : ℕ) (g : Group) : Type 0 where
  pub small : g.name < group_names
  pub few : length g.names ≤ cap
  pub back : entries (length g.names) (words cap g.names) ≡ g.names

pub readable : (cap N : ℕ) (g : Group) → RegularGroup cap N g → Readable cap g
readable cap N g r = record {
  small = r.small;
  few = r.names_sound.room;
  back = entries-words cap N g.names r.names_sound;
}

pub sized : {cap : ℕ} {st : State} → Regular cap st → Sized st
sized r = record { groups_few = r.groups_few; links_long = r.links_long; free_long = r.free_long }

-- the s_groups that the words of s_groups stand for, whatever follows
pub groups-back : (cap : ℕ) (gs : List Group) (z : List ℕ) → Every (Readable cap) gs
    → groups_of cap (map contents gs) (map (λ g. g.members) gs) (bodies cap gs ++ z) ≡ gs
groups-back cap [] z f = refl
groups-back cap (g ∷ gs) z f =
    ap₂ ◌∷◌
    (λ i. record { name = contents-name g f.0.small i; members = g.members; names = names-back i })
    (ap (groups_of cap (map contents gs) (map (λ h. h.members) gs)) after ∙ groups-back cap gs z f.1)
  where
    together : bodies cap (g ∷ gs) ++ z ≡ words cap g.names ++ (bodies cap gs ++ z)
    together = append_assoc (words cap g.names) (bodies cap gs) z

    names-back : entries (contents g / group_names) (bodies cap (g ∷ gs) ++ z) ≡ g.names
    names-back =
        rw (contents-count g f.0.small, together)
        (entries_front (length g.names) (words cap g.names) (bodies cap gs ++ z) (omega (arith, length-words cap g.names, f.0.few)) ∙ f.0.back)

    after : drop cap (bodies cap (g ∷ gs) ++ z) ≡ bodies cap gs ++ z
    after = rw together (drop_at (words cap g.names) (bodies cap gs ++ z) cap (length-words cap g.names))

module _ {cap : ℕ} {st : State} {t : List ℕ} (l : Laid cap st t) where
  contents-back : take (length st.groups) (drop contents_at t) ≡ map contents st.groups
  unfolding sections
  contents-back =
      rw (onward l.run 1 (lit< tt), ← length-map st.groups contents)
      (take-pad group_limit (map contents st.groups) (cat (drop 2 (sections cap st))))

  members-back : take (length st.groups) (drop members_at t) ≡ map (λ g. g.members) st.groups
  unfolding sections
  members-back =
      rw (onward l.run 2 (lit< tt), ← length-map {A = Group} {B = ℕ} st.groups (λ g. g.members))
      (take-pad group_limit (map (λ g. g.members) st.groups) (cat (drop 3 (sections cap st))))

  -- the words of the s_groups' names, and what follows
  after : List ℕ
  after = replicate (group_limit * cap - length (bodies cap st.groups)) 0 ++ cat (drop 6 (sections cap st))

  bodies-back : drop bodies_at t ≡ bodies cap st.groups ++ after
  unfolding after sections
  bodies-back = onward l.run 5 (lit< tt) ∙ append_assoc (bodies cap st.groups) (replicate (group_limit * cap - length (bodies cap st.groups)) 0) (cat (drop 6 (sections cap st)))

  -- the words of a state stand for it
  pub state-back : Every (Readable cap) st.groups → state_of cap t ≡ st
  unfolding state_of
  state-back f =
      λ i.
      record {
        size = size_is l i;
        hidden = hidden-is l i;
        groups = all-groups i;
        links = links-are l i;
        free = free-are l i;
      }
    where
      all-groups : groups_of cap (take (get_or t 2 0) (drop contents_at t)) (take (get_or t 2 0) (drop members_at t)) (drop bodies_at t) ≡ st.groups
      all-groups = rw (count-is l, contents-back, members-back, bodies-back) (groups-back cap st.groups after f)

pub round_trip : (cap : ℕ) (st : State) → Regular cap st → state_of cap (layout cap st) ≡ st
round_trip cap st r = state-back (laid cap st (sized r)) (every_map (RegularGroup cap st.size) (Readable cap) (readable cap st.size) st.groups r.each)

pub length-layout : (cap : ℕ) (st : State) → Sized st → length (layout cap st) ≡ table_words cap
length-layout cap st h = length-of (laid cap st h)
