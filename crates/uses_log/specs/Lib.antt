pub mod Appending
pub mod Publishing
