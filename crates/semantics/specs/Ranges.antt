-- What several rules ask of numbers and of what is found. Definitions only. Assumes nothing.
use Rattle.std.specs.Prelude.{Bool, true, false, ◌||◌, ℕ, eqb, leb}
use Rattle.std.proofs.Math.Option.{Option, none, some}
use Rattle.semantics.specs.Sizes.{group_names}

-- an s_group's name is out of range: names are 1 to 65,535
abbrev pub bad_group : ℕ → Bool
bad_group s = eqb s 0 || leb group_names s

-- whether something was found
abbrev pub held : {A : Type 0} → Option A → Bool
held none = false
held (some a) = true
