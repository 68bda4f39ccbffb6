pub mod WireTests
pub mod Below
pub mod Gather
pub mod Knowing
pub mod Loose
