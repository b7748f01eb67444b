pub mod Public
mod Gathering
mod GroupTurns
mod closing
