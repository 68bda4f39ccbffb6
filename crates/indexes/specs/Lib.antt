-- The index of a table by pid, the calls with one, and what is proved of them. Index and IndexCalls (believed) have the definitions that the statements of
-- docs/STATEMENTS.md are made of; of the others a reader needs the statements alone.

pub mod Index
pub mod IndexCalls
pub mod IndexLeft
pub mod EveryName
-- ---- laws
pub mod Ascending
pub mod Updates
pub mod Sorting
pub mod Flat
pub mod WalkLaws
pub mod Room
pub mod WalkWords
pub mod TestLaws
