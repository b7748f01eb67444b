pub mod Heads
pub mod Known
