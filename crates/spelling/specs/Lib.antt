-- Launch files as Erlang terms. `Spelling` is the definition (believed): which terms are such files, and their texts; `FilePlace` (believed) what the place of a refusal
-- is. `Course` is the way through a file token by token; `Takes` leads from it to the machine's bytes. `Samples` has terms with their texts. The theorems stand in
-- proofs/. Assumes nothing.
pub mod Spelling
pub mod FilePlace
pub mod Tests
pub mod Course
pub mod Takes
pub mod Samples
