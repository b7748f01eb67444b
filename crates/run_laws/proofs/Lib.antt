pub mod Public
mod Following
mod Running
mod Simulation
mod IndexedSimulation
mod Reducing
mod Metering
mod Within
mod Turns
mod ShowingLockstep
mod Lockstep
mod Rounds
mod RoundsWithin
mod Examples
