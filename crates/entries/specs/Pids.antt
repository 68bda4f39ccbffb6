-- How wide names and pids are, and the node that a pid lives on. Definitions only: this file is what a reader has to believe. Assumes nothing.
use Rattle.std.specs.Prelude.{ℕ, ◌/◌}

-- names and pids are below this, and a word counts its name by it
abbrev pub half_word : ℕ
half_word = 4294967296

-- each host has so many pids
abbrev pub pids_per_host : ℕ
pids_per_host = 67108864

-- the node that a pid lives on
abbrev pub host : ℕ → ℕ
host pid = pid / pids_per_host
