pub mod Products
pub mod Quotients
pub mod Answering
pub mod CellCodes
pub mod CallCodes
pub mod FillCodes
pub mod RefProcs
pub mod Arguments
