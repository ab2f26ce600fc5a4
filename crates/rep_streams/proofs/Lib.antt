pub mod Writing
pub mod Noted
