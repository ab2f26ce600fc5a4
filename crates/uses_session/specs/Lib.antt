pub mod Alone
pub mod Moving
pub mod Swapping
