pub mod Device
pub mod Faults
pub mod Readings
pub mod States
pub mod Known
pub mod Calls
pub mod Laws
