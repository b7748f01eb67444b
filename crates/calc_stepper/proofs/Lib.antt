mod Inside
mod Running
mod Stepping
pub mod Public
