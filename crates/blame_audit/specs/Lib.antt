pub mod Up
pub mod SafeLabels
pub mod CastsGoUp
pub mod Claims
pub mod Known
pub mod Views
pub mod Marks
pub mod Texts
