pub mod Mutual
pub mod Exchange
pub mod Turning
