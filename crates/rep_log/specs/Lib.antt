pub mod Tail
pub mod Standing
pub mod Moves
pub mod Scanning
pub mod Laws
pub use Rattle.rep_layout.specs.Rows
pub use Rattle.rep_record.specs.Blocks
pub use Rattle.rep_record.specs.Fronts
pub use Rattle.rep_record.specs.Records
pub use Rattle.rep_cells.specs.Readings
pub use Rattle.rep_cells.specs.States as CellStates
