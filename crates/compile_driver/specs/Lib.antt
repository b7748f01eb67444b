pub mod Compiling
pub mod Space
pub mod Words
pub mod Bounds
