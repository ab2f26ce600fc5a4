pub mod Wholes
pub mod Streams
pub mod TellingApart
