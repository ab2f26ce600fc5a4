pub mod Keeping
pub mod Appending
pub mod Publishing
