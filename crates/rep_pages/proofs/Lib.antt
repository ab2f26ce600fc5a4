pub mod Bodies
pub mod Unchanged
pub mod Following
pub mod Imaging
pub mod Counting
pub mod Spelled
