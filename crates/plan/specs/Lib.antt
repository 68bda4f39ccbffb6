-- What is to be made of the groups of a launch file. `Plan` is the definition (believed), with samples of it in `PlanSamples`, and `Creatable` what it means for
-- whoever creates the groups. `Looked` says what functions of the code do; `Turns` and `Peopled` have laws. Assumes nothing.
pub mod Plan
pub mod PlanSamples
pub mod Looked
pub mod Turns
pub mod Peopled
