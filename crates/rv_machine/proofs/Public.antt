-- The lemmas that other crates may cite.

-- ---- the labels of an image
pub use Rattle.rv_machine.proofs.Image.{length-labels_from, label_within, label_past, labels_none, labels_more}
-- ---- turns
pub use Rattle.rv_machine.proofs.Tabled.{turn_goes_by_the_table-instruction, turn_goes_by_the_table-undefined}
pub use Rattle.rv_machine.proofs.Conditions.{a_condition_is_that_of_its_branch}
pub use Rattle.rv_machine.proofs.Runs.{run_none, run_more, run_stops, later_turns_go_on_from_earlier_ones}
pub use Rattle.rv_machine.proofs.Runs.{what_has_stopped_stays-stays, what_has_stopped_stays-stops_again}
pub use Rattle.rv_machine.proofs.Runs.{run_is_its_turns-states}
-- what holds of each way in which an instruction goes on holds of all
pub use Rattle.rv_machine.proofs.Acts.{EachWay, each_act}
-- ---- readings of stops as endings
pub use Rattle.rv_machine.proofs.Wrongs.{a_run_goes_wrong_under_every_reading}
-- ---- the program logic of code with marks
pub use Rattle.rv_machine.proofs.Standing.{Program, At, HasItem, has_item-append, drop_next, at_small, at_aligned}
pub use Rattle.rv_machine.proofs.Standing.{some_address, behind_mark, NextAt, next_at, MarkAt, mark_at, found_at}
pub use Rattle.rv_machine.proofs.Standing.{item_here}
pub use Rattle.rv_machine.proofs.Steps.{running, step_is, call_stops}
-- what the step of each kind of item comes to
pub use Rattle.rv_machine.proofs.Steps.{op_step_is, call_step_is, jump_step_is, fall_step_is, branch_step_is}
pub use Rattle.rv_machine.proofs.Steps.{address_step_is, register_jump_step_is}
