-- The lemmas that other crates may cite. What a clause says has the clause's name.
pub use Rattle.cast_modes.proofs.Counting.{counting_changes_no_state}
