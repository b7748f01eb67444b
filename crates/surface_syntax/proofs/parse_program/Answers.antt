use Rattle.std.proofs.Common.{map, refl, ap, sym, ◌∙◌, subst, arith}
use Rattle.std.proofs.lemmas.Result.{err_from_is_err_and}
use Rattle.sexpr_reader.specs.View.{datums_of}
use Rattle.form_table.specs.Marked.{all_marked}
use Rattle.surface_trees.specs.Views.{expr_of}
use Rattle.surface_syntax.specs.TopParts.{part_of}
use Rattle.form_table.specs.Programs.{AreExpr}
use Rattle.surface_syntax.proofs.Answered.{answered, fault_given, is_shallow, is_fresh_once}
use Rattle.surface_syntax.proofs.parse_program.Goals as goal

pub returns-in_err-parts-clause-refused : goal.returns-in_err-parts-clause-refused
returns-in_err-parts-clause-refused c =
    let exit = err_from_is_err_and c.from_residual.result c.from_residual.ensures.1 in
    fault_given (all_marked (datums_of c.args.forms.now)) c.from_residual.result c.in_err-parts.field-0.0 _ _
    (rw (exit.1, exit.2) refl) c.in_err-parts.ensures.parts

pub returns-clause-program : goal.returns-clause-program
returns-clause-program c =
    subst (AreExpr (all_marked (datums_of c.args.forms.now)))
    (sym (ap expr_of c.into_inner-body.ensures ∙ c.in_ok-whole.ensures))
    (answered _ (map part_of c.in_ok-parts.parts.items) _ c.in_ok-parts.ensures.parts)

pub returns-clause-fresh : goal.returns-clause-fresh
returns-clause-fresh c =
    is_fresh_once (all_marked (datums_of c.args.forms.now)) (expr_of c.into_inner-body.result)
    (subst (AreExpr (all_marked (datums_of c.args.forms.now)))
    (sym (ap expr_of c.into_inner-body.ensures ∙ c.in_ok-whole.ensures))
    (answered _ (map part_of c.in_ok-parts.parts.items) _ c.in_ok-parts.ensures.parts))

pub returns-clause-shallow : goal.returns-clause-shallow
returns-clause-shallow c =
    let deep = is_shallow (datums_of c.args.forms.now) (expr_of c.into_inner-body.result)
    (subst (AreExpr (all_marked (datums_of c.args.forms.now)))
    (sym (ap expr_of c.into_inner-body.ensures ∙ c.in_ok-whole.ensures))
    (answered _ (map part_of c.in_ok-parts.parts.items) _ c.in_ok-parts.ensures.parts)) in
    omega (arith, c.in_ok-parts.ensures.all, c.in_ok-parts.ensures.few)
