-- `Woven` reads s_groups as words, `Plans` says what list a plan is, each with its laws. Assumes nothing.
pub mod Plans
pub mod Woven
