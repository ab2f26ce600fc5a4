pub mod Replicas
pub mod Refusing
pub mod Spelling
pub mod Holding
pub mod Running
pub mod Opening
pub mod Reading
pub mod Stopping
pub mod Lives
pub mod Episodes
pub mod Asking
pub mod Settling
pub mod SettlingLaws
pub mod Committing
pub mod Installing
pub mod Donating
pub use Rattle.rep_recover.specs.Engines
pub use Rattle.rep_recover.specs.Donating as EngineDonating
pub use Rattle.rep_recover.specs.Installing as EngineInstalling
pub use Rattle.rep_recover.specs.Reading as EngineReading
pub use Rattle.rep_recover.specs.Ascending
pub use Rattle.rep_recover.specs.Coming
pub use Rattle.rep_recover.specs.Next
pub use Rattle.rep_recover.specs.BasePages
pub use Rattle.rep_recover.specs.Meanings
pub use Rattle.rep_recover.specs.Formatting
pub use Rattle.rep_recover.specs.Looking
pub use Rattle.rep_recover.specs.Opening as DiskOpening
