pub mod PlacesApart
pub mod Turns
pub mod RowPlaces
pub mod Fours
pub mod Supers
pub mod Windows
pub mod GoingOn
