-- What other crates may cite.
pub use Rattle.core_redexes.proofs.Taking.{tuple_taken}
