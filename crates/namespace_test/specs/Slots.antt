-- Slots tell most pids apart at little cost: pids with different slots differ. No promise to a caller rests on which slot a pid has. Assumes nothing.
use Rattle.std.specs.Prelude.{ℕ, ◌*◌, ◌/◌, ◌%◌}

-- how many slots there are
abbrev pub slot_count : ℕ
slot_count = 1024

-- a slot is made of the digits of a pid's multiple by this number,
abbrev pub slot_factor : ℕ
slot_factor = 2654435761

-- from this one on
abbrev pub slot_digit : ℕ
slot_digit = 4194304

-- the slot of a pid
abbrev pub slot : ℕ → ℕ
slot pid = pid * slot_factor / slot_digit % slot_count
