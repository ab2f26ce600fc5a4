pub mod Receipts
pub mod Counting
pub mod Committing
pub mod Joining
pub mod Finishing
pub mod Taking
pub mod Following
pub mod Followers
