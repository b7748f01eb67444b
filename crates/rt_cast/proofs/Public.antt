-- The lemmas that other crates use. What a clause of a law says has the law's name, behind a dash with that of the
-- clause where there are several.
pub use Rattle.rt_cast.proofs.Reaching.{compositions_are_held, coercions_of_casts_are_held}
pub use Rattle.rt_cast.proofs.CastReaching.{casts, casts_are_made, light_casts_are_cheap}
pub use Rattle.rt_cast.proofs.ClosedForms.{bounds_have_closed_forms-words, bounds_have_closed_forms-prices}
pub use Rattle.rt_cast.proofs.ProjectReaching.{parts_of_tuples, parts_of_tuples_are_answered}
pub use Rattle.rt_cast.proofs.ProjectReaching.{parts_in_dyn, parts_in_dyn_are_answered}
pub use Rattle.rt_cast.proofs.WholeRows.{objects_fill_the_region}
pub use Rattle.rt_cast.proofs.Closing.{procedures_are_closed-closed}
pub use Rattle.rt_cast.proofs.Objects.{objects_stand_where_their_words_do}
-- What proofs about procedures that call these use, so that they walk through their own code as the proofs here do. A
-- walk and its states:
pub use Rattle.rt_cast.proofs.Walks.{Walk}
pub use Rattle.rt_cast.proofs.Small.{ReachedIn, grows_not, grows_on, not_zero}
pub use Rattle.rt_cast.proofs.Reaching.{at_first, walk}
-- steps, one lemma an instruction, with what is left of their number:
pub use Rattle.rt_cast.proofs.Steps.{Budget, One, Out, Pay, Spare, End, More, Comes, goes, one_less, paid_for, at_most}
pub use Rattle.rt_cast.proofs.Steps.{arrives, counted}
pub use Rattle.rt_cast.proofs.Steps.{sets_word, computes, loads, loads_at, if_true, if_false, calls, comes_back}
pub use Rattle.rt_cast.proofs.Steps.{tail_calls}
-- words of objects, and numbers that are told apart:
pub use Rattle.rt_cast.proofs.Steps.{WordThere, header_there, wholes_more}
pub use Rattle.rt_cast.proofs.Objects.{none_some, same_some, holds_found, word_found, header_held, header_room}
pub use Rattle.rt_cast.proofs.Objects.{words_split, bytes_below, AreSmall, stored_words, holds_append}
pub use Rattle.rt_cast.proofs.Objects.{word_same, words_same, object_same, holds_same, holds_stored}
pub use Rattle.rt_cast.proofs.Objects.{closure_header, tuple_header, box_header, vector_header, proxy_header}
pub use Rattle.rt_cast.proofs.Objects.{proxy_read, dyn_header}
pub use Rattle.rt_cast.proofs.HeaderNumbers.{lt_true, lt_false, eq_true, eq_false, kind_read, count_read}
pub use Rattle.rt_cast.proofs.ComposeSteps.{type_numbers}
-- the call of cast, whose decisions the merged mode makes, and what is held and carried still behind it:
pub use Rattle.rt_cast.proofs.Middles.{held_still}
pub use Rattle.rt_cast.proofs.ProjectRuns.{part_held}
pub use Rattle.rt_cast.proofs.CastCases.{apply}
pub use Rattle.rt_cast.proofs.CastRuns.{GoesOn, no_higher, whole_above, carried_still, by_cast, by_either}
pub use Rattle.rt_cast.proofs.CastRuns.{words_within, price_within}
pub use Rattle.rt_cast.proofs.HeavyTurns.{heavy_unless_light}
pub use Rattle.rt_cast.proofs.CastDecisions.{low_of, by_cast as decided_cast}
pub use Rattle.rt_cast.proofs.CastReaching.{ends, blames_at, very_still}
-- coercions without projection or injection, and what follows them:
pub use Rattle.rt_cast.proofs.ComposeRuns.{is_plain, plain_solid, follow_plain, solid_is}
pub use Rattle.rt_cast.proofs.CastDecisions.{after_no_project}
-- words in Dyn, behind a tag or not:
pub use Rattle.rt_cast.proofs.DynWords.{SmallIs, small_is, small_fits, tag_read, no_tag, untagged, narrow_back}
pub use Rattle.rt_cast.proofs.DynWords.{wide_differs}
pub use Rattle.rt_cast.proofs.IntoDyn.{dyn_still}
