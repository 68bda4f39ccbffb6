-- `AllMade` has the theorems: the lowest reason is given, a refusal writes nothing, and a launch that goes through leaves a sound table in which every group was
-- made. `LaunchLaws` has laws for code. Assumes nothing.
pub mod LaunchLaws
pub mod AllMade
