-- The lemmas on objects and rows for other crates. What a clause says has the clause's name: that of its function, and
-- behind a dash its own where the function has several.
pub use Rattle.object_layout.proofs.Rows.{whole_sooner, fills_sooner, fills_append, fills_one_more, fills_few}
pub use Rattle.object_layout.proofs.Rows.{a_range_is_one_row}
pub use Rattle.object_layout.proofs.Places.{nth_above, nth_behind, an_address_is_that_of_one_object}
pub use Rattle.object_layout.proofs.Changing.{whole_same, fills_same}
pub use Rattle.object_layout.proofs.Changes.{an_object_of_a_row_is_whole, a_row_stays_past_its_end}
pub use Rattle.object_layout.proofs.Changes.{a_row_stays_in_a_free_word-row, a_row_stays_in_a_free_word-points}
pub use Rattle.object_layout.proofs.Packing.{unpacks}
pub use Rattle.object_layout.proofs.KindLemmas.{number_of_kind, small_number, is_the_proxy, free_wanted, free_target}
pub use Rattle.object_layout.proofs.KindLemmas.{free_stands, free_no_proxy}
