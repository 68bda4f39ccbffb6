-- Where a place of a text stands. `Position` is the definition, `PositionLaws` how it goes byte by byte. Assumes nothing.
pub mod Position
pub mod PositionLaws
