pub mod Rows
pub mod RowsLaws
pub mod Slots
pub mod Pages
pub mod PagesLaws
pub mod Images
pub mod Spelled
