pub mod Runs
pub mod Machines
pub mod Reductions
pub mod Meters
pub mod Accounts
