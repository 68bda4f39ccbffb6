pub mod Place
pub mod Seats
pub mod Sound
