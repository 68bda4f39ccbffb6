pub mod Opened
pub mod Reasons
