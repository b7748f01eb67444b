-- What other crates may cite. What a clause says has the clause's name: that of its function, and behind a dash its own
-- where the function has several.
pub use Rattle.reference_laws.proofs.OverObjects.{answers_are_cast, box_writes_are_blamed, calls_are_made}
pub use Rattle.reference_laws.proofs.OverObjects.{elements_are_read, elements_are_written, indices_outside_trap}
pub use Rattle.reference_laws.proofs.OverObjects.{lengths_are_told, writes_outside_trap}
pub use Rattle.reference_laws.proofs.Filling.{vectors_are_made, lengths_below_zero_trap}
-- and from any state, whatever is kept of the region
pub use Rattle.reference_laws.proofs.Filling.{lengths_below_zero_go_on, vectors_are_filled}
