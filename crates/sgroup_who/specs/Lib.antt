-- What the program says of a process: `Report` has the definitions, `Reported` laws, `Sample` an example by computation. Assumes nothing.
pub mod Report
pub mod Reported
pub mod Sample
