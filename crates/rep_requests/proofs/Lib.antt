pub mod Keys
pub mod Spaces
pub mod Numbered
pub mod Unread
