pub mod Bits
pub mod Table
pub mod Valid
pub mod Fields
pub mod Encoding
pub mod Decoding
