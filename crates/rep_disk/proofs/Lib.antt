pub mod Bytes
pub mod Images
pub mod Moments
mod Record
