-- What other crates may cite. What a clause says has the clause's name: that of its function, and behind a dash its own
-- where the function has several.
pub use Rattle.lowered_code.proofs.closing.Programs.{lowered_programs_are_closed}
pub use Rattle.lowered_code.proofs.closing.RoomCalls.{WantsRoom, lowered_none}
