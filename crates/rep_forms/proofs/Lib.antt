pub mod Putting
pub mod Repeats
pub mod Chains
pub mod Blanks
pub mod RowBytes
