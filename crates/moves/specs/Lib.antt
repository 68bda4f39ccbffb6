pub mod Moves
pub mod Shifting
