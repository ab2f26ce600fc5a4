pub mod Listing
pub mod Reading
pub mod Showing
pub mod Standing
pub mod Telling
