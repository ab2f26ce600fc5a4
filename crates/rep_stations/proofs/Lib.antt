pub mod Waits
pub mod Judges
pub mod Goes
pub mod Takes
pub mod Closes
pub mod Extends
