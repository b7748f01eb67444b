pub mod Views
pub mod Scoped
pub mod Seen
pub mod Onto
pub mod Gathered
