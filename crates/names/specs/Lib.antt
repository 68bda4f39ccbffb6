pub mod NamesAt
pub mod Renamed
pub mod NamesHere
pub mod Looked
