-- A book without its index. `Unindexed` is what is known of the lines that are passed. Assumes nothing.
pub mod Unindexed
