-- What pieces of code do over words, one lemma for each, over whatever comes after it; and what they cost.
pub mod Arithmetic
pub mod Credits
pub mod Steps
pub mod Scene
pub mod Operands
pub mod Standing
pub mod Operations
pub mod Services
pub mod Groups
pub mod Operators
pub mod Products
pub mod EmitPrices
pub mod Stops
