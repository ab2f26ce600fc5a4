pub mod CatchingUp
