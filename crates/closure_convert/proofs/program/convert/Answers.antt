use Rattle.std.proofs.Common.{◌≡◌, ℕ, List, length, true, subst, sym}
use Rattle.run_laws.specs.Accounts.{FollowsWithin}
use Rattle.run_laws.specs.Runs.{Any, FollowsBy, NeverWrong}
use Rattle.cast_modes.specs.AnswerTypes.{Told}
use Rattle.cast_modes.specs.Modes.{Mode, TypeCast, piling}
use Rattle.coercion_norm.specs.MergedMode.{merging}
use Rattle.coer_core.specs.Counts.{run_in, told_of}
use Rattle.core_calc.specs.Account.{account, extent, measures_of}
use Rattle.core_calc.specs.Calculus.{Program}
use Rattle.core_calc.specs.Typing.{ProgramTermHasType}
use Rattle.coer_core.specs.Terms.{RowTerm, core_of}
use Rattle.coer_core.specs.Views.{row_term_of}
use Rattle.flat_ir.specs.Bodies.{Proc}
use Rattle.flat_ir.specs.Closed.{is_closed}
use Rattle.flat_ir.specs.Counts.{flat_run_in}
use Rattle.flat_ir.specs.Levels.{HaveLevels}
use Rattle.closure_convert.specs.Bounds.{CountsKept}
use Rattle.closure_convert.specs.Conversion.{converted, made}
use Rattle.flat_ir.specs.FlatTally.{FlatBelow, FlatPaidBelow, flat_tally_in}
use Rattle.coer_core.specs.TurnPrices.{merged_prices, piled_prices}
use Rattle.closure_convert.proofs.Closing.{converted_closed}
use Rattle.closure_convert.proofs.FewLevels.{procedures_have_few_levels}
use Rattle.closure_convert.proofs.Standing.{IsClosedTerm, converted_follows}
use Rattle.closure_convert.proofs.TallyKept.{piled_procedures_keep_account, merged_procedures_keep_account}
use Rattle.closure_convert.proofs.Typed.{typed_closed, typed_fine}
use Rattle.closure_convert.proofs.program.convert.Goals as goal

-- what holds of the procedures of a term and of the number of the last holds of those that were made
of_made : (P : List Proc → ℕ → Type 0) (term : RowTerm) {procs : List Proc} {entry : ℕ} → procs ≡ converted term
    → entry ≡ made term → P (converted term) (made term) → P procs entry
of_made P term {entry = entry} same last h =
    subst (λ procs. P procs entry) (sym same) (subst (P (converted term)) (sym last) h)

-- no name is free in a term that reads back to the term of a program
no_free : (casts : List TypeCast) (source : Program) (term : RowTerm) (type : ℕ) → source.term ≡ core_of casts term
    → ProgramTermHasType source.types (length source.labels) source.term type → IsClosedTerm term
no_free casts source term type reads typed =
    let typed1 = subst (λ x. ProgramTermHasType source.types (length source.labels) x type) reads typed in
    typed_closed casts source.types (length source.labels) term type typed1.3

made_follow : {C : Type 0} (mode : Mode C) (told : Told) (term : RowTerm) (input : List ℕ) {procs : List Proc}
    {entry : ℕ} → procs ≡ converted term → entry ≡ made term → IsClosedTerm term
    → NeverWrong (run_in mode told term input)
    → FollowsBy CountsKept Any (flat_run_in procs entry mode told input) (run_in mode told term input)
made_follow mode told term input same last closed never =
    of_made (λ procs entry. FollowsBy CountsKept Any (flat_run_in procs entry mode told input)
    (run_in mode told term input)) term same last (converted_follows mode told term input closed never)

pub returns-clause-closed : goal.returns-clause-closed
returns-clause-closed c = λ casts types labels type widths h.
    let term = row_term_of c.args.program.now.body in
    of_made (λ procs entry. is_closed procs entry ≡ true) term
    (c.in_ok-procs.ensures.procs (typed_closed casts types labels term type h.3)) c.in_ok-procs.ensures.entry
    (converted_closed term (typed_fine casts types labels term type widths h.3 c.have_words.ensures))

pub returns-clause-levels : goal.returns-clause-levels
returns-clause-levels c = λ casts types labels type h.
    let term = row_term_of c.args.program.now.body in
    of_made (λ procs entry. HaveLevels (extent (core_of casts term)) procs) term
    (c.in_ok-procs.ensures.procs (typed_closed casts types labels term type h.3)) c.in_ok-procs.ensures.entry
    (procedures_have_few_levels casts types labels term type h)

pub returns-clause-account : goal.returns-clause-account
returns-clause-account c = λ casts source input type reads typed.
    let term = row_term_of c.args.program.now.body in
    let mode = piling source.types casts in
    of_made (λ procs entry. FollowsWithin (FlatBelow 1) FlatPaidBelow
    (flat_tally_in procs entry mode (piled_prices mode (measures_of source)) (told_of source type) input)
    (account source input)) term
    (c.in_ok-procs.ensures.procs (no_free casts source term type reads typed)) c.in_ok-procs.ensures.entry
    (piled_procedures_keep_account casts source term input type reads typed)

pub returns-clause-merged_account : goal.returns-clause-merged_account
returns-clause-merged_account c = λ casts source input type reads typed table.
    let term = row_term_of c.args.program.now.body in
    let mode = merging source.types casts in
    of_made (λ procs entry. FollowsWithin (FlatBelow 2) FlatPaidBelow
    (flat_tally_in procs entry mode (merged_prices source.types mode (measures_of source)) (told_of source type) input)
    (account source input)) term
    (c.in_ok-procs.ensures.procs (no_free casts source term type reads typed)) c.in_ok-procs.ensures.entry
    (merged_procedures_keep_account casts source term input type reads typed table)

pub returns-clause-piled : goal.returns-clause-piled
returns-clause-piled c = λ closed casts told input never.
    made_follow (piling told.types casts) told (row_term_of c.args.program.now.body) input
    (c.in_ok-procs.ensures.procs closed) c.in_ok-procs.ensures.entry closed never

pub returns-clause-merged : goal.returns-clause-merged
returns-clause-merged c = λ closed casts told input never.
    made_follow (merging told.types casts) told (row_term_of c.args.program.now.body) input
    (c.in_ok-procs.ensures.procs closed) c.in_ok-procs.ensures.entry closed never
