pub mod Modes
pub mod RunValues
pub mod ValueSteps
pub mod AnswerTypes
pub mod Counting
pub mod Prices
