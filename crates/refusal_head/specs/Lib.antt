-- What of a refused launch is determined by its answer: `Refusal` has the definitions, `Begins` laws. Assumes nothing.
pub mod Refusal
pub mod Begins
