pub mod Ranges
pub mod Kept
pub mod Fitting
pub mod Writing
pub mod Syncing
pub mod Reading
