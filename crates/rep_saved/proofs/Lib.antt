pub mod Trimmed
pub mod Sayings
pub mod Visible
pub mod ReadBack
