pub mod Living
pub mod Bringing
pub mod Committing
