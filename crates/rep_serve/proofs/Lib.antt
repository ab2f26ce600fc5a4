pub mod Reading
pub mod Telling
pub mod Settling
