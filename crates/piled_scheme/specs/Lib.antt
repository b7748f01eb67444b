pub mod Piling
pub mod Codes
