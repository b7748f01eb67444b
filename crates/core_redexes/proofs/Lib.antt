mod OperatorCounts
mod OperatorCells
mod OperatorTurns
mod DynPlace
mod Taking
mod Entering
mod Projecting
pub mod Public
