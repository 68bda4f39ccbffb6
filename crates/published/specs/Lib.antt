-- The published semantics, and that the library's calls are those. Files marked (believed) have the definitions that the statements of
-- docs/STATEMENTS.md are made of; of the others a reader needs the statements alone.

-- ---- the published semantics (believed): 000's state, functions and transitions; the published state of a table; 01's reasons and the whole answer;
-- opening; which published states there are
pub mod Published
pub mod Seen
pub mod Refusals
pub mod Opens
pub mod WellFormed
