mod SignedBits
mod Decoded
mod Rows
mod RoundTrip
pub mod Public
