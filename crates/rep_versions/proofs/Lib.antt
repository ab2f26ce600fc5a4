mod InRow
mod OfRows
mod Pages
pub mod Places
pub mod Changes
pub mod Following
