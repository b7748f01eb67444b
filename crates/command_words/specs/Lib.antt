pub mod Commands
pub mod ReadCommands
