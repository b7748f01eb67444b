-- That lowered programs are closed: what is known of words while code is gone along, and that each piece is closed.
pub mod Knowledge
pub mod Operands
pub mod Operations
pub mod Groups
pub mod Bodies
pub mod Leaves
pub mod Programs
pub mod RoomCalls
