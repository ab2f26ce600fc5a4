pub mod Fronts
pub mod Counting
pub mod Folding
