pub mod Ascending
pub mod Reaching
pub mod LastWriters
pub mod Places
pub mod Kept
pub mod Making
pub mod Agreeing
pub mod Following
