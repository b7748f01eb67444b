pub mod Registers
pub mod Image
pub mod State
pub mod Turn
pub mod Start
pub mod Branches
pub mod Mach
pub mod Real
