pub mod Widths
pub mod Registers
pub mod Consoles
pub mod Processor
pub mod Turns
pub mod Actions
pub mod Blocks
pub mod Pages
