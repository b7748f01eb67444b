pub mod Scoping
pub mod Onto
pub mod Rules
mod Made
pub mod Public
