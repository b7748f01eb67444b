pub mod Moves
pub mod Values
pub mod Redexes
pub mod Taken
pub mod Turns
pub mod Entered
