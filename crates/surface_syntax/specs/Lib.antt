pub mod Elements
pub mod Parts
pub mod Forms
pub mod TopParts
