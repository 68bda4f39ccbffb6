pub mod Found
pub mod Kept
pub mod PidFound
