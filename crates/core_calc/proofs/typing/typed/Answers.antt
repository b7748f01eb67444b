use Rattle.core_calc.specs.Views.{term_of}
use Rattle.core_calc.proofs.TypesComputed.{program_type_found, no_program_term}
use Rattle.core_calc.proofs.typing.typed.Goals as goal

pub returns-in-Ok-clause-found : goal.returns-in-Ok-clause-found
returns-in-Ok-clause-found c =
    λ labels low. program_type_found c.args.types.now labels (term_of c.args.core.now) c.in-Ok.ty.0
    c.len.ensures.table low c.in-Ok.ensures

pub returns-in-Err-NoType-clause-none : goal.returns-in-Err-NoType-clause-none
returns-in-Err-NoType-clause-none c =
    λ labels type h. no_program_term c.args.types.now (term_of c.args.core.now)
    (rw c.in-Err-NoType.field-0-is at c.in-Err-NoType.ensures) labels type h
