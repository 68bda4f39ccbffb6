pub mod NamesTestMeaning
pub mod TestMeaning
pub mod Verdict
