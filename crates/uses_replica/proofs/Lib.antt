pub mod Going
pub mod Bringing
pub mod Committing
