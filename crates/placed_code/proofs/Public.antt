-- What other crates may cite.
pub use Rattle.placed_code.proofs.Dense.{few}
pub use Rattle.placed_code.proofs.FrameSizes.{frames_no_larger}
pub use Rattle.placed_code.proofs.Greedy.{turn_holds}
pub use Rattle.placed_code.proofs.ImageBytes.{memory_bytes, parts_small}
pub use Rattle.placed_code.proofs.Keeps.{is_applied}
pub use Rattle.placed_code.proofs.LacksStack.{lacks_with_all}
pub use Rattle.placed_code.proofs.Names.{equal_of}
pub use Rattle.placed_code.proofs.ProcWords.{procedure_words}
pub use Rattle.placed_code.proofs.Readings.{of_stack, of_stack_reads, same_but_ending, stop_read, stopped}
pub use Rattle.placed_code.proofs.Readings.{words_never_wrong}
pub use Rattle.placed_code.proofs.Renamed.{few_other, few_procedure, put_other, put_procedure, renamed_fit, rest_is}
pub use Rattle.placed_code.proofs.SlotLists.{kept_other, kept_slot, place_is}
pub use Rattle.placed_code.proofs.SpareStack.{never_lacks_stack}
pub use Rattle.placed_code.proofs.slotted.SlotClaims.{is_slots}
