-- What is proved of the definitions in specs/: theorems, and the laws that they rest on.
pub mod Creatable
pub mod Steps
