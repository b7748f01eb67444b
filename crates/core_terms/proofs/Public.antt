-- What other crates may cite.
pub use Rattle.core_terms.proofs.Gathering.{term_boxed}
