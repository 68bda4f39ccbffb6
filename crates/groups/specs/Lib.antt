pub mod Shifted
pub mod Grouped
pub mod Regrouped
