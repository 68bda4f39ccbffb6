-- The published state that a state stands for, and that the published state of a sound table is the one of its state. `Seen` has what is published of a
-- table, which is passed on. Assumes nothing.
use Rattle.std.specs.Prelude.{◌≡◌, refl, ◌⊎◌, ◌&&◌, cond, List, ℕ, ◌≤◌, ◌<◌, ltb}
use Rattle.std.proofs.Math.Path.{sym, fun_ext}
use Rattle.std.proofs.Common.{ap, ◌∙◌, inl, inr, arith}
use Rattle.std.proofs.Math.Logic.{⊎_elim}
use Rattle.std.proofs.Math.Bool.{not}
use Rattle.std.proofs.Math.Option.{Option, none, some, map}
use Rattle.std.proofs.Math.ListN.{get_or-eq_default}
use borrow.Author.Tests.{lt-ltb, le-ltb}
use Rattle.nodes.specs.Sets.{node_limit, has, word_at}
use Rattle.nodes.specs.Bools.{by_lt}
use Rattle.nodes.proofs.SetLaws.{has-none}
use Rattle.entries.specs.Entries.{lookup}
use Rattle.semantics.specs.Sizes.{names_per_group}
use Rattle.semantics.specs.State.{Group, State, free_of, find}
use Rattle.semantics.specs.Table.{layout, state_of}
use Rattle.semantics.specs.Soundness.{size_of, Sound}
use Rattle.semantics.specs.WordsOfState.{Sized}
use Rattle.semantics.proofs.WordsMeaning.{Means}
use Rattle.semantics.proofs.KeyPlaces.{pid-is, group-is}
use Rattle.semantics.specs.Regular.{Regular}
use Rattle.semantics.proofs.RoundTrip.{round_trip}
use Rattle.semantics.proofs.ReadOff.{state-sized, state-means}
use Rattle.semantics.proofs.Agree.{regular-test, sound-iff}
use Rattle.published.specs.Published.{Map, of_some, SGroup, Published, IsSGroupNode}
unfoldable pub use Rattle.published.specs.Seen.{group_seen, names_seen, seen_table, set_word, how_many, chained, name_words, group_words, listed, said}

-- ---- states

-- an s_group
abbrev pub seen : Group → SGroup
seen g = record { nodes = has g.members; namespace = λ n. lookup n g.names }

-- the published state of a state
unfoldable pub published : State → Published
published st =
    let grs : Map SGroup = λ s. of_some none (λ g. some (seen g)) (find s st.groups) in
    record {
      grs = grs;
      fgs = λ ni. has (free_of ni st);
      fhs = λ ni. has st.hidden ni && not (IsSGroupNode ni grs);
      nds = λ ni.
          cond (ltb ni st.size)
          (some (record { hidden = has st.hidden ni; connections = has (word_at st.links ni); gr_names = names_seen ni grs }))
          none;
    }

-- ---- tables

-- f of what there is
pub mapped : {A B : Type 0} (f : A → B) (o : Option A) → map f o ≡ of_some none (λ a. some (f a)) o
mapped f none = refl
mapped f (some a) = refl

module _ {st : State} {t : List ℕ} (sound : Sound names_per_group t) (z : Sized st) (m : Means names_per_group st t) where
  groups-are : (s : ℕ) → (seen_table t).grs s ≡ (published st).grs s
  unfolding seen_table published
  groups-are s =
      group-is sound m (group_seen t) seen
      (λ g h i. record { nodes = has (m.members g h i); namespace = fun_ext (pid-is sound m g h) i }) s
      ∙ mapped seen (find s st.groups)

  -- past the roster every word of the free normal groups is zero
  free-is : (i : ℕ) → (seen_table t).fgs i ≡ (published st).fgs i
  unfolding seen_table published
  free-is i = ⊎_elim
      (λ (l : i < size_of t). rw (lt-ltb i (size_of t)) (ap has (m.free i (omega (arith, sound.size_range.1)))))
      (λ (l : size_of t ≤ i). rw (le-ltb i (size_of t)) (sym (ap has (nothing l (by_lt i node_limit)) ∙ fun_ext has-none)))
      (by_lt i (size_of t))
    where
      nothing : size_of t ≤ i → (i < node_limit) ⊎ (node_limit ≤ i) → free_of i st ≡ 0
      nothing l (inl h) = sym (m.free i h) ∙ sound.free_zero i l h
      nothing l (inr h) = get_or-eq_default st.free 0 (omega (arith, z.free_long))

  node-is : (i : ℕ) → (seen_table t).nds i ≡ (published st).nds i
  unfolding seen_table published
  node-is i = ⊎_elim
      (λ (l : i < size_of t).
      rw (lt-ltb i (size_of t), lt-ltb i st.size (omega (arith, m.size))) λ k. some (record {
        hidden = has (m.hidden k) i;
        connections = has (m.links i (omega (arith, sound.size_range.1)) k);
        gr_names = names_seen i (fun_ext groups-are k);
      }))
      (λ (l : size_of t ≤ i). rw (le-ltb i (size_of t), le-ltb i st.size (omega (arith, m.size))))
      (by_lt i (size_of t))

  means-seen : seen_table t ≡ published st
  unfolding seen_table published
  means-seen =
      λ k. record {
        grs = fun_ext groups-are k;
        fgs = fun_ext free-is k;
        fhs = λ i. has (m.hidden k) i && not (IsSGroupNode i (fun_ext groups-are k));
        nds = fun_ext node-is k;
      }

-- what is published of a sound table is what is published of its state
pub seen-sound : (t : List ℕ) → Sound names_per_group t → seen_table t ≡ published (state_of names_per_group t)
seen-sound t h = means-seen h (state-sized h) (state-means h)

-- what is published of the table of a regular state is what is published of the state
pub layout-seen : (st : State) → Regular names_per_group st → seen_table (layout names_per_group st) ≡ published st
layout-seen st r =
    seen-sound (layout names_per_group st) ((sound-iff names_per_group (layout names_per_group st)).0 (regular-test names_per_group st r))
    ∙ ap published (round_trip names_per_group st r)
