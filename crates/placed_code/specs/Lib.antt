pub mod Slots
pub mod Slotted
pub mod Places
pub mod Rename
pub mod Sized
pub mod Applied
pub mod Check
pub mod Prices
