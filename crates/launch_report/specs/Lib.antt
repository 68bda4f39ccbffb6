-- What is said of a launch that goes through: `Launched` has the definitions, `Telling` and `Length` laws. Assumes nothing.
pub mod Launched
pub mod Telling
pub mod Length
