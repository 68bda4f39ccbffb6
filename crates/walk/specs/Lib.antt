-- Walking the groups of a launch file. `Walk`, `Groups` and `Along` are the definitions: what each function reads. `Unfold` has the walks one step unfolded, `Atoms`
-- and `Machine` that the walk reads what the machine of `grammar` reads. Assumes nothing.
pub mod Walk
pub mod Groups
pub mod Along
pub mod Unfold
pub mod Atoms
pub mod Machine
