-- Skipping the values of pairs. `Skipping` has what is promised, the others laws. Assumes nothing.
pub mod Skipping
pub mod Plain
pub mod Brackets
pub mod Items
pub mod Skips
