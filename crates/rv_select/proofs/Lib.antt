pub mod StackSizes
pub mod WordCounts
pub mod Spared
pub mod Public
mod Paying
mod Pricing
mod Stretches
mod Fetching
mod Handing
mod Relation
mod Stepping
mod Straight
mod Allocating
mod Outside
mod Branching
mod Calling
mod Leaving
mod Moves
mod Marks
mod Laying
mod Following
mod InWordStack
mod Emitting
mod Closedness
mod Procs
mod Claims
mod Walking
mod Goods
mod Standing
mod Samples
