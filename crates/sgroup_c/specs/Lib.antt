-- The library for C: `LaunchWords` has a launch as numbers. Assumes nothing.
pub mod LaunchWords
