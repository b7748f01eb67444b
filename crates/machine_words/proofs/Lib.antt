mod Memory
mod Readings
pub mod Public
