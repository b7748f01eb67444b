-- What other crates may cite.
pub use Rattle.lower.proofs.simulation.Made.{entry_there, procedures_are_narrow}
pub use Rattle.lower.proofs.words.Stops.{AreSized, numbered_words}
-- What a scheme is shown lawful with. What stands in memory and what is carried:
pub use Rattle.lower.proofs.heap.Objects.{AreSmall, box_header, bytes_below, closure_header, dyn_header}
pub use Rattle.lower.proofs.heap.Objects.{found_within, holds_same, none_some, same_some, stored_words}
pub use Rattle.lower.proofs.heap.Objects.{tuple_header, vector_header, word_found, words_same}
pub use Rattle.lower.proofs.heap.Filled.{filled_above, filled_more, header_there, may, stands, there_later}
pub use Rattle.lower.proofs.heap.Filled.{word_there}
pub use Rattle.lower.proofs.heap.Cells.{as_many_cells, cell_of, cell_word_there, cells_append, cells_end}
pub use Rattle.lower.proofs.heap.Cells.{cells_stored, holds_stored, set_length, there_is, there_same}
pub use Rattle.lower.proofs.heap.Cells.{words_stored}
pub use Rattle.lower.proofs.heap.CarriedLater.{all_later, as_many, carried_small, cells_below, cells_grown}
pub use Rattle.lower.proofs.heap.CarriedLater.{cells_later, function_there, grown, later}
pub use Rattle.lower.proofs.simulation.Services.{kept_in_front}
-- steps of code within what is left to pay of its procedure:
pub use Rattle.lower.proofs.words.Credits.{By, by_go, by_weaken}
pub use Rattle.lower.proofs.words.Steps.{Calm, Comes, Goal, at, builds, computes, goes_last, here, if_false}
pub use Rattle.lower.proofs.words.Steps.{if_true, left_of, loads, lt_true, sets_word, stores}
pub use Rattle.lower.proofs.words.Standing.{stands_as}
pub use Rattle.lower.proofs.words.Products.{products_are_served}
pub use Rattle.lower.proofs.words.Arithmetic.{header_is, negative_is, positive_is, small_fits, tag_some}
pub use Rattle.lower.proofs.words.Arithmetic.{word_small}
-- and what follows of it:
pub use Rattle.lower.proofs.simulation.Programs.{words_follow_by, words_keep_by}
pub use Rattle.lower.proofs.Sets.{programs_with_sets_are_closed, serves_anywhere}
-- The merged scheme:
pub use Rattle.lower.proofs.merging.HeldCasts.{casts_held, tallest_low}
pub use Rattle.lower.proofs.merging.Serving.{words_follow_procedures-rows, words_follow_procedures-storage}
pub use Rattle.lower.proofs.merging.Serving.{words_keep_the_account}
pub use Rattle.lower.proofs.merging.RoomCalls.{programs_want_no_room}
-- what another scheme is shown lawful with
pub use Rattle.lower.proofs.merging.Fills.{plainly_lets, vectors_are_served}
pub use Rattle.lower.proofs.merging.Reading.{too_many}
pub use Rattle.lower.proofs.merging.States.{calls_blame, element_past, in_front}
