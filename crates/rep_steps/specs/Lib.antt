pub mod Answers
pub mod Events
pub mod Standings
pub mod Moves
pub mod Nodes
pub mod Orders
pub mod Runs
pub mod Images
pub mod Joining
pub mod Judging
pub mod Parts
pub mod FactLaws
pub mod Deliveries
pub mod FrontLaws
pub use Rattle.rep_log.specs.CellStates
pub use Rattle.rep_log.specs.Laws as LogLaws
pub use Rattle.rep_log.specs.Moves as LogMoves
pub use Rattle.rep_log.specs.Readings
pub use Rattle.rep_log.specs.Standing as LogStanding
pub use Rattle.rep_log.specs.Tail
pub use Rattle.rep_log.specs.declared.phase.Phase
