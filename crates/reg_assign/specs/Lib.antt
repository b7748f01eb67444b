pub mod Numbers
pub mod Flow
pub mod Walks
pub mod Fits
pub mod Room
pub mod Images
