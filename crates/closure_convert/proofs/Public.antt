-- What other crates may cite, by the names of the clauses.
use Rattle.std.specs.Prelude.{ℕ, List}
use Rattle.run_laws.specs.Runs.{Any, FollowsBy, NeverWrong}
use Rattle.grift_base.specs.Types.{TypeRows}
use Rattle.core_calc.specs.Typing.{ProgramTermHasType}
use Rattle.cast_modes.specs.AnswerTypes.{Told}
use Rattle.coercion_norm.specs.MergedMode.{merging}
use Rattle.cast_modes.specs.Modes.{TypeCast}
use Rattle.coer_core.specs.Counts.{run_in}
use Rattle.coer_core.specs.Terms.{RowTerm, core_of}
use Rattle.flat_ir.specs.Counts.{flat_run_in}
use Rattle.closure_convert.specs.Bounds.{CountsKept}
use Rattle.closure_convert.specs.Conversion.{converted, made}
use Rattle.closure_convert.specs.Programs.{HasNoFreeNames}
use Rattle.closure_convert.proofs.Standing.{converted_follows}
use Rattle.closure_convert.proofs.Typed.{typed_closed}

pub procedures_of_program_terms_are_closed-names : (casts : List TypeCast) (types : TypeRows) (labels : ℕ)
    (term : RowTerm) (type : ℕ) → ProgramTermHasType types labels (core_of casts term) type → HasNoFreeNames term
procedures_of_program_terms_are_closed-names casts types labels term type h =
    typed_closed casts types labels term type h.3

pub procedures_follow_their_term-merged : (casts : List TypeCast) (told : Told) (term : RowTerm) (input : List ℕ)
    → HasNoFreeNames term → NeverWrong (run_in (merging told.types casts) told term input)
    → FollowsBy CountsKept Any (flat_run_in (converted term) (made term) (merging told.types casts) told input)
    (run_in (merging told.types casts) told term input)
procedures_follow_their_term-merged casts told term input closed never =
    converted_follows (merging told.types casts) told term input closed never
