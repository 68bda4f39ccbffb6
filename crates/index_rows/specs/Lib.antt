pub mod Filled
pub mod Search
pub mod Arrays
pub mod Moving
pub mod Sweeping
pub mod Paired
