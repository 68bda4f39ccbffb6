-- What is proved of sets of nodes: `SetExamples` has worked examples, the others laws. Assumes nothing.
pub mod SetExamples
pub mod SetLaws
pub mod TruthTable
pub mod LowestNode
pub mod Counts
pub mod Walk
pub mod Words
