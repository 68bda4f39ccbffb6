-- Launch files. `File` is the definition (believed); `Samples` computes some texts; `Place` has the place of a refusal (believed: `Shares` and `Place`) and
-- the theorem on it; `Steps` has laws for code. Assumes nothing.
pub mod File
pub mod Samples
pub mod Place
pub mod Steps
