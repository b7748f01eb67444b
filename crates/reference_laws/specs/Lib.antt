pub mod CallLaws
pub mod CellLaws
pub mod FillLaws
pub mod ReferenceLaws
