-- The lemmas that other crates may cite.

-- ---- memory
pub use Rattle.machine_words.proofs.Memory.{stored_inside, stored_outside, load_same, load_short, load_stored}
pub use Rattle.machine_words.proofs.Memory.{load_other, load_below}
-- ---- readings of stops as endings
pub use Rattle.machine_words.proofs.Readings.{the_readings_take_faults_as_wrong-endings}
pub use Rattle.machine_words.proofs.Readings.{the_readings_take_faults_as_wrong-stops}
