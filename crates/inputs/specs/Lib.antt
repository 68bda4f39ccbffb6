pub mod Judge
pub mod Passed
