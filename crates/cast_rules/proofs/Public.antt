-- What other crates may cite.
pub use Rattle.cast_rules.proofs.Elaborated.{entries_elaborated, program_answered}
pub use Rattle.cast_rules.proofs.Listing.{elaborated_programs_list_their_casts}
pub use Rattle.cast_rules.proofs.Room.{all_within_later, all_within_parts, all_within_push, body_first, body_rest}
pub use Rattle.cast_rules.proofs.Room.{content_of_ref, content_of_vect, fun_fits, function_within, grows_last, grows_on}
pub use Rattle.cast_rules.proofs.Room.{grows_same, if_ok_more, interned_grows, interned_stands, leaf_part}
pub use Rattle.cast_rules.proofs.Room.{may_part_later, more_grows, no_parts, none_within, on_ok, part_later}
pub use Rattle.cast_rules.proofs.Room.{parts_later, parts_then, ref_fits, room_steps, small_part, stands_within}
pub use Rattle.cast_rules.proofs.Room.{tuple_fits, vect_fits, within_more, within_part, written_steps}
pub use Rattle.cast_rules.proofs.Steps.{forms_behind, forms_more, label_interned, steps}
