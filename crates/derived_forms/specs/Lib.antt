pub mod Written
pub mod Expansion
