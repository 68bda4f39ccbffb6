-- The walk over the s_groups of a sound table, read off its words: those of the s_group at place g give its rows. Assumes nothing.
use Rattle.std.specs.Prelude.{◌≡◌, true, List, [], ◌++◌, ℕ, ◌+◌, ◌-◌, ◌*◌, ◌/◌, ◌%◌, ◌≤◌, ◌<◌, length, take, drop}
use Rattle.std.proofs.Common.{sym, ap, ◌∙◌, add_assoc, add-one, arith, length-append, length-drop, take-append-drop, get_or-take, get_or-drop, length-take-le, ext_get_or}
use Rattle.std.proofs.Math.Seq.{drop-cons, drop-length}
use Rattle.entries.specs.Entries.{words, entries}
use Rattle.entries.specs.Storage.{length-words, entries-words}
use Rattle.semantics.specs.Sizes.{group_limit, group_names}
use Rattle.semantics.specs.Table.{state_of}
use Rattle.semantics.specs.Test.{sound}
use Rattle.semantics.specs.Soundness.{count_of, contents_of}
use Rattle.semantics.specs.Regular.{Regular, RegularGroup}
use Rattle.semantics.specs.Places.{no_group, group_at}
use Rattle.semantics.specs.EntryPlaces.{words_at}
use Rattle.semantics.specs.Bodies.{own_at, body_end}
use Rattle.semantics.specs.WordByWord.{Reads, reads}
use Rattle.semantics.proofs.WordsMeaning.{Means, counted-regular, regular-means}
use Rattle.semantics.specs.WordsOfState.{length-of}
use Rattle.semantics.proofs.Agree.{test-regular, test-laid}
use Rattle.indexes.specs.Index.{rows, walk}
use Rattle.indexes.specs.Ascending.{Distinct}
use Rattle.indexes.specs.WalkLaws.{walk-append, length-rows, length-walk-fits, distinct-behind, walk-distinct}

module _ (cap : ℕ) (t : List ℕ) (ok : sound cap t ≡ true) where
  regular : Regular cap (state_of cap t)
  regular = (test-regular cap t ok).0

  read : Reads cap (state_of cap t) t
  read = reads (test-laid cap t ok)

  means : Means cap (state_of cap t) t
  means = regular-means regular read

  -- the table tells how many s_groups it has
  pub groups-counted : count_of t ≡ length (state_of cap t).groups
  groups-counted = read.count

  pub counted-few : count_of t ≤ group_limit
  counted-few = omega (arith, groups-counted, regular.groups_few)

  -- past the last one nothing is left
  pub walk_end : walk (drop (count_of t) (state_of cap t).groups) ≡ []
  unfolding walk
  walk_end = rw (groups-counted, drop-length (state_of cap t).groups)

  -- ---- the s_groups from place g on

  walk-parts : (g : ℕ) → walk (state_of cap t).groups ≡ walk (take g (state_of cap t).groups) ++ walk (drop g (state_of cap t).groups)
  walk-parts g = ap walk (sym (take-append-drop g (state_of cap t).groups)) ∙ walk-append (take g (state_of cap t).groups) (drop g (state_of cap t).groups)

  pub walk-fits : (g : ℕ) → length (walk (drop g (state_of cap t).groups)) ≤ group_limit * cap
  walk-fits g =
      omega (
        arith,
        ap length (walk-parts g),
        length-append (walk (take g (state_of cap t).groups)) (walk (drop g (state_of cap t).groups)),
        length-walk-fits cap (state_of cap t).size (state_of cap t).groups regular.each regular.groups_few,
      )

  pub walk-distinct-from : (g : ℕ) → Distinct (walk (drop g (state_of cap t).groups))
  walk-distinct-from g =
      distinct-behind (walk (take g (state_of cap t).groups)) (walk (drop g (state_of cap t).groups))
      (rw (walk-parts g) at (walk-distinct cap (state_of cap t) regular))

  -- ---- the s_group at place g

  module _ (g : ℕ) (h : g < count_of t) where
    one : RegularGroup cap (state_of cap t).size (group_at (state_of cap t).groups g)
    one = counted-regular regular read g h

    -- it has no more names than there is room for
    pub names-fit : contents_of t g / group_names ≤ cap
    names-fit = omega (arith, means.names g h, one.names_sound.room)

    -- the words of its names, from b up to e
    own_words : (b e : ℕ) → b ≡ own_at cap g → e ≡ b + cap → take (e - b) (drop b t) ≡ words cap (group_at (state_of cap t).groups g).names
    own_words b e eb ee =
        let few : g < group_limit = omega (arith, counted-few) in
        let size : e - b ≡ cap = omega arith in
        let long : length (take cap (drop b t)) ≡ cap =
        length-take-le cap (drop b t) (omega (arith, length-drop b t, length-of (test-laid cap t ok), body_end cap g few)) in
        rw size
        (ext_get_or 0 (take cap (drop b t)) (words cap (group_at (state_of cap t).groups g).names) (long ∙ sym (length-words cap _)) λ k l.
        get_or-take cap (drop b t) k 0 (omega arith) ∙ get_or-drop b t k 0
        ∙ rw (eb, add_assoc) (read.entries g k few (omega arith)) ∙ sym (words_at cap (group_at (state_of cap t).groups g).names k (omega arith)))

    -- they give its rows
    pub own-rows : (b e : ℕ) → b ≡ own_at cap g → e ≡ b + cap
        → rows (contents_of t g % group_names) (entries (contents_of t g / group_names) (take (e - b) (drop b t)))
        ≡ rows (group_at (state_of cap t).groups g).name (group_at (state_of cap t).groups g).names
    own-rows b e eb ee =
        rw (own_words b e eb ee, means.name g h, means.names g h, entries-words cap (state_of cap t).size (group_at (state_of cap t).groups g).names one.names_sound)

    -- and the walk goes on behind them
    walk-on : walk (drop g (state_of cap t).groups)
        ≡ rows (group_at (state_of cap t).groups g).name (group_at (state_of cap t).groups g).names ++ walk (drop (g + 1) (state_of cap t).groups)
    unfolding walk
    walk-on = rw (add-one g, drop-cons (state_of cap t).groups g no_group (omega (arith, groups-counted)))

    pub walk-next : (b e : ℕ) → b ≡ own_at cap g → e ≡ b + cap
        → walk (drop g (state_of cap t).groups)
        ≡ rows (contents_of t g % group_names) (entries (contents_of t g / group_names) (take (e - b) (drop b t))) ++ walk (drop (g + 1) (state_of cap t).groups)
    walk-next b e eb ee = rw (own-rows b e eb ee) walk-on

    pub length-walk-next : length (walk (drop g (state_of cap t).groups)) ≡ contents_of t g / group_names + length (walk (drop (g + 1) (state_of cap t).groups))
    length-walk-next =
        ap length walk-on
        ∙ rw (
          length-append (rows (group_at (state_of cap t).groups g).name (group_at (state_of cap t).groups g).names) (walk (drop (g + 1) (state_of cap t).groups)),
          length-rows,
          means.names g h,
        )
