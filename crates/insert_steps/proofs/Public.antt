-- What other crates may cite.
pub use Rattle.insert_steps.proofs.Made.{failed_as, failed_first, failed_with, first_split, made_first, made_then}
pub use Rattle.insert_steps.proofs.Onto.{bindings_turned, members_turned}
pub use Rattle.insert_steps.proofs.Scoping.{with_names_drop, with_names_push}
