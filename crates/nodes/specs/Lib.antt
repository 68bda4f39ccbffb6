-- Sets of nodes in a word: `NodeSets` has the definitions to believe, `Sets` the others; `Members` has the steps of a walk over a set; `Bools` and `Digits` have laws of
-- tests and of digits. Assumes nothing.
pub mod NodeSets
pub mod Sets
pub mod Bools
pub mod Digits
pub mod Members
