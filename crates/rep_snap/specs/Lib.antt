pub mod Lists
pub mod Book
pub mod Views
pub mod Shelves
pub mod Rule
pub mod Doors
pub mod Looks
pub mod Laws
