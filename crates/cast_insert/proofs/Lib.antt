mod Sketches
mod FormExamples
mod DataExamples
pub mod Loops
pub mod Bodies
pub mod LoopRules
