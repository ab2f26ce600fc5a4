pub mod Next
pub mod Standing
pub mod Moves
pub mod States
pub mod Calls
pub mod Pages
pub mod Laws
pub mod Coming
pub mod Installing
pub mod Nodes
pub mod Arriving
pub mod Ascending
pub use Rattle.rep_image.specs.Bases
pub use Rattle.rep_image.specs.Meanings
pub use Rattle.rep_image.specs.Syncs
pub use Rattle.rep_image.specs.Standing as ImageStanding
