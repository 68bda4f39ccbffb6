pub mod Lists
pub mod Reads
pub mod Arms
