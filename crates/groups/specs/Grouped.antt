-- An s_group that is new, and one with other members. Definitions only. Assumes nothing.
use Rattle.std.specs.Prelude.{[], ℕ}
use Rattle.semantics.specs.State.{Group}

-- an s_group of no names
abbrev pub fresh : ℕ → ℕ → Group
fresh s m = record { name = s; members = m; names = [] }

-- an s_group with the members m
abbrev pub manned : ℕ → Group → Group
manned m g = record { name = g.name; members = m; names = g.names }
