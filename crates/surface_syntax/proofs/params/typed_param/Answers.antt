use Rattle.std.proofs.Common.{subst, sym}
use Rattle.sexpr_reader.specs.View.{datums_of}
use Rattle.surface_trees.specs.Views.{named_param_of}
use Rattle.form_table.specs.Claims.{Answers}
use Rattle.form_table.specs.Marked.{all_marked}
use Rattle.form_table.proofs.Public.{walk_exit, walk_ok}
use Rattle.surface_syntax.proofs.ParamRows.{typed_row}
use Rattle.surface_syntax.proofs.params.typed_param.Goals as goal

pub returns-in_err-typed-clause-param : goal.returns-in_err-typed-clause-param
returns-in_err-typed-clause-param c =
    subst (λ w. Answers c.from_residual-in_err-typed.result named_param_of w)
    (sym (typed_row c.args.scope.now c.args.pos (all_marked (datums_of c.args.elements.now))))
    (walk_ok _ _ _ _ _ c.in_ok-parts.ensures.elements
    (walk_exit _ _ _ _ _ _ _ c.in_err-typed.was c.from_residual-in_err-typed.ensures.1 c.typed_name.ensures.name))
