-- What can follow a text: `Following` has the definitions, `Tried` laws. Assumes nothing.
pub mod Following
pub mod Tried
