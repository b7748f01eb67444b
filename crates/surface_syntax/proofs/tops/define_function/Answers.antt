use Rattle.std.proofs.Common.{refl, sym, ◌∙◌, subst, rules}
use Rattle.sexpr_reader.specs.View.{datums_of}
use Rattle.form_table.specs.Marked.{all_marked}
use Rattle.surface_trees.specs.Views.{params_of, lambda_of}
use Rattle.surface_syntax.specs.TopParts.{part_of}
use Rattle.surface_syntax.specs.Parts.{in_box}
use Rattle.form_table.specs.Claims.{Parses}
use Rattle.surface_syntax.proofs.FormRows.{bind_reads, bind_ok, bind_err, plain_reads, plain_err}
use Rattle.surface_syntax.proofs.Shapes.{one_first}
use Rattle.surface_syntax.proofs.Rows.{function_named}
use Rattle.surface_syntax.proofs.tops.define_function.Goals as goal

pub returns-in_err-params-clause-part : goal.returns-in_err-params-clause-part
returns-in_err-params-clause-part c =
    let row = function_named c.args.run.now c.args.pos c.args.place _ _ _ (all_marked (datums_of c.args.rest.now))
    c.args.names.now _ (one_first c.args.head.now c.in-Cons.is) (sym c.has_body.ensures ∙ c.if-not-has_body.false)
    (rw c.deref.ensures at c.in_ok-name.ensures.name) in
    subst (λ w. Parses c.from_residual-in_err-params.result part_of c.args.names.now w) (sym row)
    (plain_err _ _ params_of part_of _ _ c.in_err-params.field-0.0 c.params.result
    c.from_residual-in_err-params.result c.in_err-params.was (search rules)
    (rw c.deref-2.ensures at c.params.ensures))

pub returns-in_err-fun-clause-part : goal.returns-in_err-fun-clause-part
returns-in_err-fun-clause-part c =
    let row = function_named c.args.run.now c.args.pos c.args.place _ _ _ (all_marked (datums_of c.args.rest.now))
    c.args.names.now _ (one_first c.args.head.now c.in-Cons.is) (sym c.has_body.ensures ∙ c.if-not-has_body.false)
    (rw c.deref.ensures at c.in_ok-name.ensures.name) in
    subst (λ w. Parses c.from_residual-in_err-fun.result part_of c.lambda_with.new.names w) (sym row)
    (bind_ok _ _ _ _ _ _ _ (plain_reads _ _ _ (rw c.deref-2.ensures at c.in_ok-params.ensures))
    (bind_err _ _ (in_box lambda_of) part_of _ _ c.in_err-fun.field-0.0 c.lambda_with.result
    c.from_residual-in_err-fun.result c.in_err-fun.was (search rules) c.lambda_with.ensures))

pub returns-clause-part : goal.returns-clause-part
returns-clause-part c =
    let row = function_named c.args.run.now c.args.pos c.args.place _ _ _ (all_marked (datums_of c.args.rest.now))
    c.args.names.now _ (one_first c.args.head.now c.in-Cons.is) (sym c.has_body.ensures ∙ c.if-not-has_body.false)
    (rw c.deref.ensures at c.in_ok-name.ensures.name) in
    row ∙ bind_reads _ _ _ _ _ (plain_reads _ _ _ (rw c.deref-2.ensures at c.in_ok-params.ensures))
    (bind_reads _ _ _ _ _ c.in_ok-fun.ensures refl)
