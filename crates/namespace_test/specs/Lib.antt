pub mod Slots
pub mod Passing
