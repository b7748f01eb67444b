-- The lemmas that other crates may cite.

-- ---- how long an image is, the fields of its header, and what lies in memory
pub use Rattle.assembler.proofs.Images.{statics_field, code_field, label_field, entry_field, loaded_is}
pub use Rattle.assembler.proofs.Images.{length_image, statics_long, code_long}
-- ---- an image of a code, under any reading of stops
pub use Rattle.assembler.proofs.Following.{CodeFacts, does_as_code}
pub use Rattle.assembler.proofs.Plain.{runs_as_code}
-- ---- numbers in bytes, the lowest byte first
pub use Rattle.assembler.proofs.LittleEndian.{byte_in}
-- ---- an assembled code in the program logic
pub use Rattle.assembler.proofs.Programs.{program_of, starts_at}
