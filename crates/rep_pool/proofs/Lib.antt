mod Each
mod Given
mod GoingOn
pub mod Pages
