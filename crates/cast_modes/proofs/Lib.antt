mod Counting
pub mod Public
