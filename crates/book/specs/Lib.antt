-- The name book of a launch. `Book` has the definitions, `BookSamples` samples of them; `Index` says what the index of a book holds; `Left` what is left of lines taken one by one;
-- `LineLaws`, `PlaceLaws`, `Passing`, `Reading`, `Hinting` and `Finding` are laws. Assumes nothing.
pub mod Book
pub mod BookSamples
pub mod Index
pub mod Left
pub mod LineLaws
pub mod PlaceLaws
pub mod Passing
pub mod Reading
pub mod Hinting
pub mod Finding
