pub mod Public
mod Examples
mod Sets
mod SchemePrograms
mod heap
mod simulation
mod words
mod merging
