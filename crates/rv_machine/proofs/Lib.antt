mod Runs
mod Image
mod Tabled
mod Conditions
mod Wrongs
mod Standing
mod Steps
mod Acts
pub mod Public
