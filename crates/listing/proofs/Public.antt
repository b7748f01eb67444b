-- The lemmas for other crates.
pub use Rattle.listing.proofs.Elaborated.{elaborated_entries_fit}
