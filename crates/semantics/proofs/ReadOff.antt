-- The state that the words of a sound table stand for, part by part: it has what the words mean. Assumes nothing.
use Rattle.std.specs.Prelude.{◌≡◌, refl, List, [], ◌∷◌, ℕ, zero, suc, ◌+◌, ◌*◌, ◌/◌, ◌%◌, ◌≤◌, ◌<◌, length, take, drop}
use Rattle.std.proofs.Math.Path.{sym, ap}
use Rattle.std.proofs.Common.{◌∙◌, not-suc-le-zero, mul-suc, mul_comm, mul-le-mul_left, arith, drop-drop}
use Rattle.std.proofs.Math.ListN.{get_or, length-drop}
use Rattle.std.proofs.Math.Seq.{get_or-drop, get_or-take, length-take-le}
use Rattle.nodes.specs.Sets.{node_limit}
use Rattle.entries.specs.Entries.{Entry, entries}
use Rattle.entries.specs.Entries as Namespace
use Rattle.entries.specs.Storage.{length-entries}
use Rattle.semantics.specs.Sizes.{group_limit, group_names, contents_at, members_at, links_at, free_at, bodies_at}
use Rattle.semantics.specs.State.{Group}
use Rattle.semantics.specs.Table.{groups_of, state_of}
use Rattle.semantics.specs.Soundness.{count_of, contents_of, name_of, names_of, members_of, entry_of, Sound}
use Rattle.semantics.specs.Places.{group_at}
use Rattle.semantics.specs.EntryPlaces.{entry_at, entries_at}
use Rattle.semantics.specs.WordsOfState.{Sized}
use Rattle.semantics.proofs.WordsMeaning.{Means}

-- ---- s_groups from their contents words, members and bodies

length-groups_of : (cap : ℕ) (cs ms b : List ℕ) → length cs ≡ length ms → length (groups_of cap cs ms b) ≡ length cs
length-groups_of cap [] ms b e = refl
length-groups_of cap (c ∷ cs) [] b e = absurd (omega arith)
length-groups_of cap (c ∷ cs) (m ∷ ms) b e = ap suc (length-groups_of cap cs ms (drop cap b) (omega arith))

groups_of-at : (cap : ℕ) (cs ms b : List ℕ) (g : ℕ) → length cs ≡ length ms → g < length cs
    → group_at (groups_of cap cs ms b) g ≡ record { name = get_or cs g 0 % group_names; members = get_or ms g 0; names = entries (get_or cs g 0 / group_names) (drop (cap * g) b) }
groups_of-at cap [] ms b g e h = absurd (not-suc-le-zero h)
groups_of-at cap (c ∷ cs) [] b g e h = absurd (omega arith)
groups_of-at cap (c ∷ cs) (m ∷ ms) b zero e h = let z : cap * zero ≡ 0 = omega arith in rw z
groups_of-at cap (c ∷ cs) (m ∷ ms) b (suc g) e h =
    let z : cap * suc g ≡ cap + cap * g = omega (arith, mul-suc cap g) in
    rw (z, ← drop-drop (cap * g) cap b) (groups_of-at cap cs ms (drop cap b) g (omega arith) (omega arith))

-- ---- the state of a sound table

-- the contents words of the s_groups, and the words of their members
abbrev heads : List ℕ → List ℕ
heads t = take (count_of t) (drop contents_at t)

abbrev rosters : List ℕ → List ℕ
rosters t = take (count_of t) (drop members_at t)

module _ {cap : ℕ} {t : List ℕ} (s : Sound cap t) where
  length-heads : length (heads t) ≡ count_of t
  length-heads = length-take-le (count_of t) (drop contents_at t) (omega (arith, length-drop contents_at t, s.long, s.count_range))

  length-rosters : length (rosters t) ≡ count_of t
  length-rosters = length-take-le (count_of t) (drop members_at t) (omega (arith, length-drop members_at t, s.long, s.count_range))

  groups-count : length (state_of cap t).groups ≡ count_of t
  unfolding state_of
  groups-count = length-groups_of cap (heads t) (rosters t) (drop bodies_at t) (length-heads ∙ sym length-rosters) ∙ length-heads

  -- the s_group at place g
  group-read : (g : ℕ) → g < count_of t
      → group_at (state_of cap t).groups g ≡ record { name = name_of t g; members = members_of t g; names = entries (names_of t g) (drop (cap * g) (drop bodies_at t)) }
  unfolding state_of
  group-read g h =
      let c : get_or (heads t) g 0 ≡ contents_of t g = get_or-take (count_of t) (drop contents_at t) g 0 h ∙ get_or-drop contents_at t g 0 in
      let m : get_or (rosters t) g 0 ≡ members_of t g = get_or-take (count_of t) (drop members_at t) g 0 h ∙ get_or-drop members_at t g 0 in
      groups_of-at cap (heads t) (rosters t) (drop bodies_at t) g (length-heads ∙ sym length-rosters) (omega (arith, length-heads)) ∙ rw (c, m)

  pub state-sized : Sized (state_of cap t)
  unfolding state_of
  state-sized = record {
    groups_few = omega (arith, groups-count, s.count_range);
    links_long = length-take-le node_limit (drop links_at t) (omega (arith, length-drop links_at t, s.long));
    free_long = length-take-le node_limit (drop free_at t) (omega (arith, length-drop free_at t, s.long));
  }

  -- the words of the s_group's names are there
  body-long : (g : ℕ) → g < count_of t → names_of t g ≤ length (drop (cap * g) (drop bodies_at t))
  body-long g h =
      let n : suc g ≤ group_limit = omega (arith, s.count_range) in
      omega (arith, length-drop (cap * g) (drop bodies_at t), length-drop bodies_at t, s.long, s.names_few g h, mul-suc cap g, mul-le-mul_left cap n, mul_comm group_limit cap)

  names-read : (g : ℕ) → g < count_of t → names_of t g ≡ length (group_at (state_of cap t).groups g).names
  names-read g h = sym (ap (λ (x : Group). length x.names) (group-read g h) ∙ length-entries (names_of t g) _ (body-long g h))

  entry_read : (g k : ℕ) → g < count_of t → k < names_of t g → entry_at (group_at (state_of cap t).groups g).names k ≡ Namespace.entry_of (entry_of cap t g k)
  entry_read g k h l =
      ap (λ (x : Group). entry_at x.names k) (group-read g h) ∙ entries_at (names_of t g) _ k (body-long g h) l
      ∙ ap Namespace.entry_of (get_or-drop (cap * g) (drop bodies_at t) k 0 ∙ get_or-drop bodies_at t (cap * g + k) 0)

  pub state-means : Means cap (state_of cap t) t
  unfolding state_of
  state-means = record {
    size = refl;
    hidden = refl;
    count = sym groups-count;
    name = λ g h. ap (λ (x : Group). x.name) (sym (group-read g h));
    members = λ g h. ap (λ (x : Group). x.members) (sym (group-read g h));
    names = names-read;
    process = λ g k h l. ap (λ (x : Entry). x.name) (sym (entry_read g k h l));
    pid = λ g k h l. ap (λ (x : Entry). x.pid) (sym (entry_read g k h l));
    links = λ i h. sym (get_or-take node_limit (drop links_at t) i 0 h ∙ get_or-drop links_at t i 0);
    free = λ i h. sym (get_or-take node_limit (drop free_at t) i 0 h ∙ get_or-drop free_at t i 0);
  }
