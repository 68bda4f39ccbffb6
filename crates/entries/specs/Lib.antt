-- Namespaces: `Pids` has the definitions to believe, `Entries` the others, `EntryExamples` worked examples, the others laws. Assumes nothing.
pub mod Pass
pub mod Pids
pub mod Entries
pub mod NamespaceSound
pub mod Raw
pub mod EntryLaws
pub mod NamespaceKept
pub mod Storage
pub mod Search
pub mod NamespaceMeaning
pub mod EntryExamples
