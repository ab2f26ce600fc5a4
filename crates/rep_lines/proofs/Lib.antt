pub mod Clipping
pub mod Places
pub mod Ahead
pub mod Ranges
