pub mod Bodies
pub mod Views
pub mod Closed
pub mod Levels
pub mod Machine
pub mod Counts
pub mod FlatTally
