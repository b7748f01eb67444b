mod TypePlaces
mod ReadPrograms
mod Sources
mod Outcomes
mod Answered
mod Places
pub mod Public
