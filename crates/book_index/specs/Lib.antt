-- The bytes of a book's index. `Layout` has the definitions, `LayoutLaws` what a write leaves and changes. Assumes nothing.
pub mod Layout
pub mod LayoutLaws
