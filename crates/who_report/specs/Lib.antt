-- What is said of a process: `Who` has the definitions, `Telling` and `Length` laws. Assumes nothing.
pub mod Who
pub mod Telling
pub mod Length
