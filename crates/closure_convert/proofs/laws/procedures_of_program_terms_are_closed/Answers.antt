use Rattle.closure_convert.proofs.Closing.{converted_closed}
use Rattle.closure_convert.proofs.Typed.{typed_closed, typed_fine}
use Rattle.closure_convert.proofs.laws.procedures_of_program_terms_are_closed.Goals as goal

pub returns-clause-closed : goal.returns-clause-closed
returns-clause-closed c =
    λ casts types labels term type widths h words.
    converted_closed term (typed_fine casts types labels term type widths h.3 words)

pub returns-clause-names : goal.returns-clause-names
returns-clause-names c = λ casts types labels term type h. typed_closed casts types labels term type h.3
