pub mod AnswerWords
pub mod Told
