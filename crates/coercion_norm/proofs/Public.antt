-- The lemmas on coercions and paths for other crates. What a clause says has the clause's name, behind that of its
-- function where the function has several.
pub use Rattle.coercion_norm.proofs.PathLemmas.{last-joined, joined_joined, joined-Stop, turned-joined, joined-turned}
pub use Rattle.coercion_norm.proofs.PathLemmas.{last-turned, last-along, along-joined, solid-joined, clash-some}
pub use Rattle.coercion_norm.proofs.PathLemmas.{clash-none, one_head, heads_exact, same_kinds, same_widths, no_both}
pub use Rattle.coercion_norm.proofs.OneDepth.{id_is, and_left, and_right, is_middle}
pub use Rattle.coercion_norm.proofs.PartWords.{type_is_type}
pub use Rattle.coercion_norm.proofs.SixCases.{only_dyn, first_dyn, clash, last_dyn, base, middle_case}
pub use Rattle.coercion_norm.proofs.MiddleParts.{parts_stand}
pub use Rattle.coercion_norm.proofs.AgreementLemmas.{id_stands, coerce_stands, compose_joins}
pub use Rattle.coercion_norm.proofs.StandingLemmas.{coerce_stands_for, compose_stands_for, compose_by_table}
pub use Rattle.coercion_norm.proofs.HeightLemmas.{slot_lower, final_height, coerce_height, compose_height}
pub use Rattle.coercion_norm.proofs.NormalLemmas.{flat_after_middle, coerce_normal, compose_normal}
pub use Rattle.coercion_norm.proofs.EnoughDepth.{coerce_enough, compose_enough}
pub use Rattle.coercion_norm.proofs.OneNormalForm.{stands_alone, compose_associative}
pub use Rattle.coercion_norm.proofs.TableHeights.{heights_of_a_table}
pub use Rattle.coercion_norm.proofs.HeightNumbers.{bound_from_height, height_from_bound, coerce_no_higher}
pub use Rattle.coercion_norm.proofs.HeightNumbers.{compose_no_higher}
pub use Rattle.coercion_norm.proofs.NodeLemmas.{same_nodes, more_nodes, more_places, node_kept, tree_is, tree_kept}
pub use Rattle.coercion_norm.proofs.NodeLemmas.{trees_kept, IsTree-kept, IsTree-node, id_there}
pub use Rattle.coercion_norm.proofs.CastLemmas.{row_is, cast_by_rows, cast_solid, cast_stands, cast_low, cast_sound}
pub use Rattle.coercion_norm.proofs.CompositionLemmas.{composition_by_table, composition_low, composition_sound}
pub use Rattle.coercion_norm.proofs.CompositionLemmas.{composition_stands, is_inner, solid_is_inner}
pub use Rattle.coercion_norm.proofs.MadeParts.{made_none, made_more, made_there}
pub use Rattle.coercion_norm.proofs.PartLemmas.{part_at, part_no_higher}
pub use Rattle.coercion_norm.proofs.KnownCasts.{AreCasts-kept, AreCasts-insert}
pub use Rattle.coercion_norm.proofs.LaterTypes.{FitsTypes-later}
pub use Rattle.coercion_norm.proofs.LabelLemmas.{coerce_labels, compose_labels}
pub use Rattle.coercion_norm.proofs.WidthLemmas.{cast_no_wider, coerce_no_wider, type_slots_few}
pub use Rattle.coercion_norm.proofs.IdAndDyn.{id_behind, a_dyn_inside}
pub use Rattle.coercion_norm.proofs.Objects.{words_part, tells_both, told_header, told_kind}
pub use Rattle.coercion_norm.proofs.ObjectLists.{Within, object_kept, object_behind, found_within, last_stands}
pub use Rattle.coercion_norm.proofs.ObjectLists.{bytes_append, bytes_of_words, bytes_of_all_words, words_append}
