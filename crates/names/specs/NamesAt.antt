-- The names of the s_group at a place of a state, and other names there. Definitions only. Assumes nothing.
use Rattle.std.specs.Prelude.{List, ℕ, ◌+◌, ◌/◌, ◌<◌, length, get_or, set}
use Rattle.entries.specs.Entries.{Entry}
use Rattle.semantics.specs.Sizes.{group_names, names_per_group, contents_at}
use Rattle.semantics.specs.State.{Group, State, with_groups}
use Rattle.semantics.specs.Regular.{RegularGroup}
use Rattle.semantics.specs.Places.{group_at}

-- the names of the s_group at place k
abbrev pub names_at : ℕ → State → List Entry
names_at k st = (group_at st.groups k).names

-- how many names the contents word at place k of a table counts
abbrev pub counted : ℕ → List ℕ → ℕ
counted k t = get_or t (contents_at + k) 0 / group_names

-- an s_group with other names
abbrev pub renamed : List Entry → Group → Group
renamed ns g = record { name = g.name; members = g.members; names = ns }

-- the state where the s_group at place k has the names ns
abbrev pub with_names : ℕ → List Entry → State → State
with_names k ns st = with_groups (set st.groups k (renamed ns (group_at st.groups k))) st

-- an s_group stands at place k, and is regular
pub record Standing (k : ℕ) (st : State) : Type 0 where
  pub below : k < length st.groups
  pub regular : RegularGroup names_per_group st.size (group_at st.groups k)
