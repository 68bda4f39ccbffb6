pub mod PlaceByPlace
