mod Equations
mod BothParts
mod Measures
mod KnownPairs
mod Steps
mod PairSteps
pub mod Public
