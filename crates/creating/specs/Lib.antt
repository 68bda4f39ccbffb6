-- Several s_groups made one after another. `Creating` is the definition, `CreatingLaws` the walk of the code; `Creations` says when all can be made
-- and what that is, `NoneRefused` that they then are. Assumes nothing.
pub mod Creating
pub mod CreatingLaws
pub mod Creations
