-- What the functions' proofs rest on.
pub mod Exits
pub mod Steps
