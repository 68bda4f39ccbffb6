pub mod Scripts
pub mod FirstLines
pub mod BadLines
pub mod Whole
pub mod Sample
