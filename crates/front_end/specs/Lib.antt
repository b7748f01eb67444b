pub mod Texts
pub mod Placed
