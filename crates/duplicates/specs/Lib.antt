-- Groups of one name. `Duplicates` is the definition (believed), with samples of it in `DuplicateSamples`; `Next` says what the walk to the next group
-- gives, `Along` that the walk by such steps gives all of them, and `Names` has laws. Assumes nothing.
pub mod Duplicates
pub mod DuplicateSamples
pub mod Names
pub mod Next
pub mod Along
