pub mod Sums
pub mod Telling
