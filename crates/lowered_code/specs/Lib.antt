pub mod Numbering
pub mod CastWays
pub mod Emit
pub mod Lowered
pub mod Steps
pub mod Serving
