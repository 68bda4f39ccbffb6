pub mod Right
pub mod Named
pub mod Words
pub mod Held
pub mod Verdict
