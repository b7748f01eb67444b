-- The laws of the front end, for other crates.
pub use Rattle.front_end.proofs.Sources.{read_programs_are_sources}
pub use Rattle.front_end.proofs.Outcomes.{a_text_has_one_outcome-some, a_text_has_one_outcome-one}
pub use Rattle.front_end.proofs.TypePlaces.{program_type_there}
pub use Rattle.front_end.proofs.Places.{elaborated_programs_are_placed}
