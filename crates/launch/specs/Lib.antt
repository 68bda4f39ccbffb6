-- A launch. `Launch` is the definition (believed); `Launches` has what the code's promises are made of; `TakenGroups` and `Makeable` say why no creation is
-- refused. The theorems stand in proofs/. Assumes nothing.
pub mod Launch
pub mod Launches
pub mod TakenGroups
pub mod Makeable
