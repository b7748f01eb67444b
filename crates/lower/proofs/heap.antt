-- Objects in memory: groups, cells of boxes and vectors, and that values stay carried as objects are added.
pub mod Objects
pub mod Filled
pub mod Groups
pub mod Cells
pub mod CarriedLater
