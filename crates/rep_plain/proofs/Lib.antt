pub mod Delivering
pub mod Scans
