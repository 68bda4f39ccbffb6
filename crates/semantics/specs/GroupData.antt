-- The s_group of a name, as a line that names it can feel it. Definitions only. Assumes nothing.
use Rattle.std.proofs.Math.Option.{Option, map}
use Rattle.std.specs.Prelude.{List, ℕ}
use Rattle.semantics.specs.Sizes.{names_per_group}
use Rattle.semantics.specs.Soundness.{members_of, group_named, pid_named}

-- an s_group: the set of its members, and the pid under each process name
pub record GroupData : Type 0 where
  pub members : ℕ
  pub names : ℕ → Option ℕ

-- the s_group of the name s in a table, or its absence
abbrev pub group_in : ℕ → List ℕ → Option GroupData
group_in s t = map (λ g. record { members = members_of t g; names = pid_named names_per_group t g }) (group_named t s)
