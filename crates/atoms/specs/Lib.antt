-- Atoms as runs of bytes. `Marks` has the definitions, `Parts` laws of the numbers that parts of an atom make. Assumes nothing.
pub mod Marks
pub mod Parts
