pub mod Memory
pub mod Arithmetic
pub mod Conditions
pub mod Halts
