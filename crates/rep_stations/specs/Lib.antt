pub mod Judging
pub mod Waiting
pub mod Taking
pub mod Orders
pub mod Ending
