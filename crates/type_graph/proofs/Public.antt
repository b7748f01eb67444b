-- The lemmas on tables of types that other crates use.
pub use Rattle.type_graph.proofs.Places.{none_is_not_some, same_some, slice_get_at, get_kept, get_last}
pub use Rattle.type_graph.proofs.Places.{get_before_or_last, HasNoRepeats-push, map-injective}
pub use Rattle.type_graph.proofs.RowLemmas.{equal_lists, rows_are_equal, row_is_itself}
pub use Rattle.type_graph.proofs.TreeLemmas.{same_rows, more_rows, more_length, row_stays, row_same, later_within}
pub use Rattle.type_graph.proofs.TreeLemmas.{parts_within, all_parts_within, both_of, parts_end, parts_end_twice}
pub use Rattle.type_graph.proofs.TreeLemmas.{ends_by_parts, ends_deeper}
pub use Rattle.type_graph.proofs.TreeLemmas.{size_by_parts, height_by_parts, parts_lower, height_within}
pub use Rattle.type_graph.proofs.TreeLemmas.{ends_within_new, ends_grown, size_grown, height_grown}
pub use Rattle.type_graph.proofs.TreeLemmas.{same_types_are_one, type_agrees_with_itself}
pub use Rattle.type_graph.proofs.InternLemmas.{place_found, place_missing, intern-from_Interns, IsOrderedTable-intern}
pub use Rattle.type_graph.proofs.InternLemmas.{AreFinite-push, row_at-intern, intern_adds, intern_there}
pub use Rattle.type_graph.proofs.MeasureLemmas.{part_at, part_below_all, above_all-most}
pub use Rattle.type_graph.proofs.TextLemmas.{text_by_row, fun_parts}
pub use Rattle.type_graph.proofs.MapEntries.{value_of_entry, length-values_of, values_of-push, seen_keys, key_of_entry}
pub use Rattle.type_graph.proofs.MapEntries.{length-seen_keys, seen_keys-push, seen_keys_have_no_repeats, found_key}
pub use Rattle.type_graph.proofs.MapEntries.{absent_key, insert_entry-absent, each_entry-insert}
pub use Rattle.type_graph.proofs.RowParts.{IsPart, AreParts, row_parts_are, function_parts, tuple_parts, reference_part}
pub use Rattle.type_graph.proofs.RowParts.{vector_part, IsAmong, among, pair_among}
pub use Rattle.type_graph.proofs.RelatedLists.{related_more, related_fails, related_lengths, same_answer}
