pub mod Instructions
pub mod CodeLines
pub mod Readings
pub mod CastLines
