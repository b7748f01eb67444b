mod Rows
mod Walk
mod Running
mod Readings
mod Words
mod Lists
mod Taking
mod Opened
mod FirstRefusals
mod Outcomes
pub mod Public
