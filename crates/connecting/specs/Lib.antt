pub mod Loosed
pub mod PairConnected
pub mod Freeing
