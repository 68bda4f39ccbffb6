-- The s_groups of a sound table by their places: the names that its words tell, and the slots in which the places are noted. Assumes nothing.
use Rattle.std.specs.Prelude.{◌≡◌, true, List, ℕ, ◌+◌, ◌%◌, ◌<◌, length, drop, set}
use Rattle.std.proofs.Common.{add-one, arith, drop-cons}
use Rattle.std.proofs.Math.Seq.{drop-length}
use Rattle.semantics.specs.Sizes.{names_per_group}
use Rattle.semantics.specs.State.{Group}
use Rattle.semantics.specs.Test.{sound}
use Rattle.semantics.specs.Soundness.{count_of, name_of}
use Rattle.semantics.specs.Places.{no_group, group_at}
use Rattle.semantics.specs.WordByWord.{reads}
use Rattle.semantics.proofs.WordsMeaning.{regular-means}
use Rattle.sound_table.specs.Here.{here, regular, base}
use Rattle.indexes.specs.WalkWords.{groups-counted}
use Rattle.index_test.specs.Right.{slot_count, noted}

-- the s_group at k is noted first, then those after it
noted_one : (k : ℕ) (gs : List Group) (slots : List ℕ) → k < length gs
    → noted k (drop k gs) slots ≡ noted (k + 1) (drop (k + 1) gs) (set slots ((group_at gs k).name % slot_count) k)
noted_one k gs slots h = rw (add-one k, drop-cons gs k no_group)

module _ (t : List ℕ) (ok : sound names_per_group t ≡ true) where
  pub name-here : (g : ℕ) → g < count_of t → name_of t g ≡ (group_at (here t).groups g).name
  name-here = (regular-means (regular t ok) (reads (base t ok))).name

  pub noted-next : (g : ℕ) (slots : List ℕ) → g < count_of t
      → noted g (drop g (here t).groups) slots ≡ noted (g + 1) (drop (g + 1) (here t).groups) (set slots (name_of t g % slot_count) g)
  noted-next g slots h = rw (name-here g h) (noted_one g (here t).groups slots (omega (arith, groups-counted names_per_group t ok)))

  -- past the last one nothing is noted
  pub noted-end : (slots : List ℕ) → noted (count_of t) (drop (count_of t) (here t).groups) slots ≡ slots
  noted-end slots = rw (groups-counted names_per_group t ok, drop-length (here t).groups)
