-- What other crates may cite. What a law says has the law's name.
pub use Rattle.low_ir.proofs.CountedWords.{words_are_counted_where_they_are_taken, active_procedures_hold_their_words}
-- What is left to pay of a procedure, step by step; and prices of several steps, one by one.
pub use Rattle.low_ir.proofs.Priced.{step_pays as steps_are_paid, costs_on, costs_last}
-- an environment call that isn't the one for want of a room doesn't halt for want of it
pub use Rattle.low_ir.proofs.CallEndings.{call_of, call_has_room}
-- what each step leads to, a run leads to
pub use Rattle.low_ir.proofs.Leading.{LeadsTo, leads_along, leads_given, leads_if}
-- what holds of code that was made leads to what holds of that with something in front
pub use Rattle.low_ir.proofs.Made.{extended}
