pub mod Ends
pub mod Places
pub mod Alone
pub mod Moves
pub mod Swaps
