pub mod Judged
pub mod Shown
pub mod Settled
pub mod Ends
pub mod Listing
