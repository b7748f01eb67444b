-- The lemmas of the calculus for other crates. What a clause says has the clause's name: that of its function, and
-- behind
-- a dash its own where the function has several.

-- ---- places of lists
pub use Rattle.core_calc.proofs.ListPlaces.{some_is_not_none, none_is_not_some, same_some, both_some, get_kept}
pub use Rattle.core_calc.proofs.ListPlaces.{get_last}
pub use Rattle.core_calc.proofs.ListPlaces.{get_before_or_last, get_within, get_past, length_set, get_set}
pub use Rattle.core_calc.proofs.ListPlaces.{get_replicate, length_one_more}
-- ---- rows of tables
pub use Rattle.core_calc.proofs.RowsOfTables.{same_type, parts_have_rows, dyn_found}
-- ---- values and their types
pub use Rattle.core_calc.proofs.TypedValues.{can_be, both_row, form, value_of_term}
pub use Rattle.core_calc.proofs.CanonicalForms.{bind_length, values_have_their_types_heads-heads}
pub use Rattle.core_calc.proofs.CanonicalForms.{values_have_their_types_heads-units, values_have_their_types_heads-dyns}
pub use Rattle.core_calc.proofs.TypedValues.{values_have_their_types_heads-integers}
pub use Rattle.core_calc.proofs.TypedValues.{values_have_their_types_heads-truth_values}
pub use Rattle.core_calc.proofs.OneType.{a_term_has_one_type-terms, a_term_has_one_type-values}
-- ---- steps and runs
pub use Rattle.core_calc.proofs.Substituting.{nothing_put_in}
pub use Rattle.core_calc.proofs.Redexes.{the_step_is_that_of_the_redex-in_place, the_step_is_that_of_the_redex-steps}
pub use Rattle.core_calc.proofs.Redexes.{the_step_is_that_of_the_redex-is_whole}
pub use Rattle.core_calc.proofs.Redexes.{the_step_is_that_of_the_redex-through_parts}
pub use Rattle.core_calc.proofs.StepsKeepTypes.{steps_keep_types, typed_states_take_steps}
pub use Rattle.core_calc.proofs.RunsKeepTypes.{stands_on, typed_programs_never_go_wrong-typed}
pub use Rattle.core_calc.proofs.RunsKeepTypes.{typed_programs_never_go_wrong-never_wrong}
pub use Rattle.core_calc.proofs.AnswerKinds.{answers_have_their_types_kind}
