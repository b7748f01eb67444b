pub mod Public
mod Coercions
mod Rows
mod KindLemmas
mod Reporting
mod Places
mod Changing
mod Changes
mod Packing
