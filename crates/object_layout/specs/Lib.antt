pub mod Kinds
pub mod Headers
pub mod Words
pub mod Wholes
pub mod Reports
pub mod DynWords
