pub mod Public
mod Calling
mod InTurn
mod Applying
mod CellSteps
mod Finding
mod Reading
mod Writing
mod Filling
mod OverObjects
mod Samples
