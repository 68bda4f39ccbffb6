-- What the launch program says: `Report` has the definitions, `Reported` laws. Assumes nothing.
pub mod Report
pub mod Reported
