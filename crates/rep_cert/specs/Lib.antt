pub mod Holdings
pub mod Writers
pub mod Kept
pub mod Following
