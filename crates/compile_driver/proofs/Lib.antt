pub mod LabelsLow
pub mod Starting
pub mod Layouts
pub mod Matching
pub mod Storing
pub mod Kept
mod Readings
mod MachineOutput
mod CalculusAccount
mod FlatOutput
mod FewWords
mod StackAccount
mod Raised
mod Stopping
pub mod Following
pub mod ImageAccount
mod Compiled
