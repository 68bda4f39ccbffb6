-- Printing into a lent run. `Sheets`, `Printed` and `Puts` have the definitions, the others laws. Assumes nothing.
pub mod Sheets
pub mod Printed
pub mod Putting
pub mod Puts
pub mod Decimals
pub mod ReadBack
