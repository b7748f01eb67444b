use Rattle.std.proofs.Common.{[], ◌∷◌, ◌++◌, refl, ap, sym, ◌∙◌, subst}
use Rattle.sexpr_reader.specs.View.{datum_of}
use Rattle.form_table.specs.Marked.{marked}
use Rattle.surface_trees.specs.Views.{written_of}
use Rattle.surface_syntax.specs.TopParts.{part_of}
use Rattle.form_table.specs.Claims.{Parses}
use Rattle.surface_syntax.proofs.FormRows.{bind_reads, bind_exit}
use Rattle.surface_syntax.proofs.Rows.{run_stays, bound_function, bound_value}
use Rattle.surface_syntax.proofs.tops.bound.Goals as goal

pub returns-in_err-fun-clause-part : goal.returns-in_err-fun-clause-part
returns-in_err-fun-clause-part c =
    let row = bound_function c.args.pos c.args.name (written_of c.args.ty) (marked (datum_of c.args.sexp.now))
    c.args.names.now (sym c.is_lambda_form.ensures ∙ c.if-is_lambda_form.true) in
    subst (λ w. Parses c.from_residual.result part_of c.function.new.names w) (sym row)
    (bind_exit _ _ _ _ _ _ _ _ _ c.in_err-fun.was c.from_residual.ensures.1 c.function.ensures)

pub returns-then-is_lambda_form-clause-part : goal.returns-then-is_lambda_form-clause-part
returns-then-is_lambda_form-clause-part c =
    let row = bound_function c.args.pos c.args.name (written_of c.args.ty) (marked (datum_of c.args.sexp.now))
    c.args.names.now (sym c.is_lambda_form.ensures ∙ c.if-is_lambda_form.true) in
    row ∙ bind_reads _ _ _ _ _ c.in_ok-fun.ensures refl

pub returns-then-is_lambda_form-clause-run : goal.returns-then-is_lambda_form-clause-run
returns-then-is_lambda_form-clause-run c = λ run. ap (λ r. r ++ c.args.name ∷ [])
    (run_stays (marked (datum_of c.args.sexp.now)) run (sym c.is_lambda_form.ensures ∙ c.if-is_lambda_form.true))

pub returns-in_err-value-clause-part : goal.returns-in_err-value-clause-part
returns-in_err-value-clause-part c =
    let row = bound_value c.args.pos c.args.name (written_of c.args.ty) (marked (datum_of c.args.sexp.now))
    c.args.names.now (sym c.is_lambda_form.ensures ∙ c.if-is_lambda_form.false) in
    subst (λ w. Parses c.from_residual-in_err-value.result part_of c.expr.new.names w) (sym row)
    (bind_exit _ _ _ _ _ _ _ _ _ c.in_err-value.was c.from_residual-in_err-value.ensures.1 c.expr.ensures)

pub returns-clause-part : goal.returns-clause-part
returns-clause-part c =
    let row = bound_value c.args.pos c.args.name (written_of c.args.ty) (marked (datum_of c.args.sexp.now))
    c.args.names.now (sym c.is_lambda_form.ensures ∙ c.if-is_lambda_form.false) in
    row ∙ bind_reads _ _ _ _ _ c.in_ok-value.ensures refl
