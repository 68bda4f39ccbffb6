-- `Spelt` has the theorem that every text of a file is taken, with its groups; `Converse` that every text that is taken is one, by `Parsed`, which leads to the
-- term; `PlaceOfRefusal` that a refusal stands at the place that `FilePlace` defines. Assumes nothing.
pub mod Spelt
pub mod Parsed
pub mod Converse
pub mod PlaceOfRefusal
