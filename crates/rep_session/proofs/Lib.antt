pub mod Keys
pub mod Ascending
pub mod Stepping
pub mod Coming
