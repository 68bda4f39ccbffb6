-- The groups of a launch file made a plan of in one walk. `Gathering` says what functions of the code do; `Nodes` and `Turns` have laws: what one more node and
-- one more group make. Assumes nothing.
pub mod Gathering
pub mod Nodes
pub mod Turns
