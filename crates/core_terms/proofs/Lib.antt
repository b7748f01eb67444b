mod Gathering
mod Hiding
mod Filling
pub mod Public
