pub mod Pools
pub mod BasePages
