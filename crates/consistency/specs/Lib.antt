pub mod Consistency
pub mod Blending
pub mod Pairs
pub mod Known
