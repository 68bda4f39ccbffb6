pub mod Turns
pub mod Called
