-- Read in this order.
pub mod Sheet
pub mod Layout
pub mod Lent
pub mod Rows
pub mod RowPlaces
pub mod Tiles
pub mod TilePlaces
pub mod SouthUp
pub mod Part
pub mod Copied
pub mod Wholes
