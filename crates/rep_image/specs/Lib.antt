pub mod Bases
pub mod Ends
pub mod Meanings
pub mod Standing
pub mod Syncs
