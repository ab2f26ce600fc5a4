pub mod Engines
pub mod Writing
pub mod Holding
pub mod Accepting
pub mod Reading
pub mod Donating
pub mod Checking
pub mod Installing
pub use Rattle.rep_pool.specs.BasePages
pub use Rattle.rep_pool.specs.Pools
pub use Rattle.rep_checkpoint.specs.Laws as CheckpointLaws
pub use Rattle.rep_checkpoint.specs.Moves as CheckpointMoves
pub use Rattle.rep_checkpoint.specs.Next
pub use Rattle.rep_checkpoint.specs.Nodes
pub use Rattle.rep_checkpoint.specs.Standing as CheckpointStanding
pub use Rattle.rep_checkpoint.specs.declared.stage.Part
pub use Rattle.rep_checkpoint.specs.declared.stage.Stage
pub use Rattle.rep_checkpoint.specs.Bases
pub use Rattle.rep_checkpoint.specs.Meanings
pub use Rattle.rep_checkpoint.specs.ImageStanding
pub use Rattle.rep_checkpoint.specs.Arriving
pub use Rattle.rep_checkpoint.specs.Calls as CheckpointCalls
pub use Rattle.rep_checkpoint.specs.Coming
pub use Rattle.rep_checkpoint.specs.Installing as CheckpointInstalling
pub use Rattle.rep_checkpoint.specs.Ascending
