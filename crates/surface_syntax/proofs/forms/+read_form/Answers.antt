use Rattle.std.proofs.Common.{refl, ap, ap₂, sym, ◌∙◌, subst, rules}
use Rattle.grift_base.specs.declared.refusals.RefusalKind.TheVariants.{BadForm, TooWide}
use Rattle.sexpr_reader.specs.declared.sexps.Sexp.{Sexp, out-Sexp}
use Rattle.sexpr_reader.specs.declared.sexps.SexpList.{the_lemmas}
use Rattle.sexpr_reader.specs.View.{datum_of, datums_of}
use Rattle.form_table.specs.Marked.{marked, all_marked}
use Rattle.form_table.specs.Walking.{Reads, Refuses}
use Rattle.form_table.specs.Pass.{parse_list, parse_within}
use Rattle.surface_trees.specs.Views.{expr_of, exprs_of, params_of, lambda_of}
use Rattle.surface_syntax.specs.Parts.{range_of, bound_of, member_of, parse_call, in_box}
use Rattle.surface_syntax.specs.Forms.{headed_of, lambda_from}
use Rattle.form_table.specs.Claims.{Parses}
use Rattle.form_table.proofs.Public.{place_marked}
use Rattle.surface_syntax.proofs.FormRows.{bind_reads, bind_ok, bind_exit, plain_reads, plain_exit}
use Rattle.surface_syntax.proofs.FormRows.{answers_refused}
use Rattle.surface_syntax.proofs.ExprRows.{no_word, arrow_heads, within_full, within_more}
use Rattle.surface_syntax.proofs.FormParts.{list_row, behind_row, function_row, binding_row, member_row, range_row}
use Rattle.surface_syntax.proofs.FormParts.{headed_by, plain_answers, none_of, counted_here, gathered_here, plain_body}
use Rattle.surface_syntax.proofs.FormParts.{typed_here}
use Rattle.surface_syntax.proofs.Shapes.{one_first}
use Rattle.surface_syntax.proofs.Loops.{each_more, each_exit, bound_more, bound_exit, lets_bind, letrecs_bind}
use Rattle.surface_syntax.proofs.forms.+read_form.Goals as goal

pub applied-returns-in_err-room : goal.applied-returns-in_err-room
applied-returns-in_err-room t c =
    plain_exit _ _ _ _ _ _ _ _ _ c.in_err-room.was c.from_residual.ensures.1 c.room.ensures

pub applied-returns-in_err-operands : goal.applied-returns-in_err-operands
applied-returns-in_err-operands t c =
    bind_ok _ _ _ _ _ _ _ (plain_reads _ _ _ c.in_ok-room.ensures)
    (bind_exit _ _ _ _ _ _ _ _ _ c.in_err-operands.was c.from_residual-in_err-operands.ensures.1 c.operands.ensures)

pub applied-returns : goal.applied-returns
applied-returns t c =
    bind_reads _ _ _ _ _ (plain_reads _ _ _ c.in_ok-room.ensures)
    (bind_reads _ _ _ _ _ c.in_ok-operands.ensures
    (ap (λ e. Reads (e, c.operands.new.names)) (sym c.in_ok-applied_to.ensures)))

pub ascription-returns-in_err-inner : goal.ascription-returns-in_err-inner
ascription-returns-in_err-inner t c =
    plain_exit _ _ _ _ _ _ _ _ _ c.in_err-inner.was c.from_residual.ensures.1 c.two_of.ensures.elements

pub ascription-returns-in_err-inner-2 : goal.ascription-returns-in_err-inner-2
ascription-returns-in_err-inner-2 t c =
    bind_ok _ _ _ _ _ _ _ (plain_reads _ _ _ c.in_ok-inner.ensures.elements)
    (bind_exit _ _ _ _ _ _ _ _ _ c.in_err-inner-2.was c.from_residual-in_err-inner-2.ensures.1 c.expr.ensures)

pub ascription-returns : goal.ascription-returns
ascription-returns t c =
    bind_ok _ _ _ _ _ _ _ (plain_reads _ _ _ c.in_ok-inner.ensures.elements)
    (bind_ok _ _ _ _ _ _ _ c.in_ok-inner-2.ensures
    (plain_answers _ _ _ _ c.ascribed.ensures))

pub projection-returns-in_err-tuple : goal.projection-returns-in_err-tuple
projection-returns-in_err-tuple t c =
    plain_exit _ _ _ _ _ _ _ _ _ c.in_err-tuple.was c.from_residual.ensures.1 c.two_of.ensures.elements

pub projection-returns-in_err-tuple-2 : goal.projection-returns-in_err-tuple-2
projection-returns-in_err-tuple-2 t c =
    bind_ok _ _ _ _ _ _ _ (plain_reads _ _ _ c.in_ok-tuple.ensures.elements)
    (bind_exit _ _ _ _ _ _ _ _ _ c.in_err-tuple-2.was c.from_residual-in_err-tuple-2.ensures.1 c.expr.ensures)

pub projection-returns : goal.projection-returns
projection-returns t c =
    bind_ok _ _ _ _ _ _ _ (plain_reads _ _ _ c.in_ok-tuple.ensures.elements)
    (bind_ok _ _ _ _ _ _ _ c.in_ok-tuple-2.ensures
    (plain_answers _ _ _ _ c.projected.ensures))

pub binding-returns-in_err-bound-clause-binding : goal.binding-returns-in_err-bound-clause-binding
binding-returns-in_err-bound-clause-binding t c =
    subst (λ w. Parses c.from_residual.result (in_box bound_of) c.args.names.now w)
    (sym (binding_row c.args.scope.now (marked (datum_of c.args.sexp.now)) c.args.names.now))
    (plain_exit _ _ _ _ _ _ _ _ _ c.in_err-bound.was c.from_residual.ensures.1 c.bound_to.ensures.name)

pub binding-returns-in_err-value-clause-binding : goal.binding-returns-in_err-value-clause-binding
binding-returns-in_err-value-clause-binding t c =
    subst (λ w. Parses c.from_residual-in_err-value.result (in_box bound_of) c.expr.new.names w)
    (sym (binding_row c.args.scope.now (marked (datum_of c.args.sexp.now)) c.args.names.now))
    (bind_ok _ _ _ _ _ _ _ (plain_reads _ _ _ c.in_ok-bound.ensures.name)
    (bind_exit _ _ _ _ _ _ _ _ _ c.in_err-value.was c.from_residual-in_err-value.ensures.1 c.expr.ensures))

pub binding-returns-clause-binding : goal.binding-returns-clause-binding
binding-returns-clause-binding t c =
    binding_row c.args.scope.now (marked (datum_of c.args.sexp.now)) c.args.names.now
    ∙ bind_reads _ _ _ _ _ (plain_reads _ _ _ c.in_ok-bound.ensures.name)
    (bind_reads _ _ _ _ _ c.in_ok-value.ensures (rw (
      c.in_ok-binding_of.ensures.name,
      c.in_ok-binding_of.ensures.written,
      c.in_ok-binding_of.ensures.value,
    ) refl))

pub member-returns-in_err-bound-clause-member : goal.member-returns-in_err-bound-clause-member
member-returns-in_err-bound-clause-member t c =
    subst (λ w. Parses c.from_residual.result (in_box member_of) c.args.names.now w)
    (sym (member_row c.args.scope.now (marked (datum_of c.args.sexp.now)) c.args.names.now))
    (plain_exit _ _ _ _ _ _ _ _ _ c.in_err-bound.was c.from_residual.ensures.1 c.bound_to.ensures.name)

pub member-returns-in_err-fun-clause-member : goal.member-returns-in_err-fun-clause-member
member-returns-in_err-fun-clause-member t c =
    subst (λ w. Parses c.from_residual-in_err-fun.result (in_box member_of) c.function.new.names w)
    (sym (member_row c.args.scope.now (marked (datum_of c.args.sexp.now)) c.args.names.now))
    (bind_ok _ _ _ _ _ _ _ (plain_reads _ _ _ c.in_ok-bound.ensures.name)
    (bind_exit _ _ _ _ _ _ _ _ _ c.in_err-fun.was c.from_residual-in_err-fun.ensures.1 c.function.ensures))

pub member-returns-clause-member : goal.member-returns-clause-member
member-returns-clause-member t c =
    member_row c.args.scope.now (marked (datum_of c.args.sexp.now)) c.args.names.now
    ∙ bind_reads _ _ _ _ _ (plain_reads _ _ _ c.in_ok-bound.ensures.name)
    (bind_reads _ _ _ _ _ c.in_ok-fun.ensures (rw (
      c.in_ok-member_of.ensures.name,
      c.in_ok-member_of.ensures.written,
      c.in_ok-member_of.ensures.fun,
    ) refl))

pub call-returns-in_err-function : goal.call-returns-in_err-function
call-returns-in_err-function t c =
    subst (λ ds. Parses c.from_residual.result (in_box expr_of) c.expr.new.names
    (parse_call c.args.pos ds c.args.names.now))
    (sym (one_first c.args.elements.now c.in-Cons.is))
    (bind_exit _ _ _ _ _ _ _ _ _ c.in_err-function.was c.from_residual.ensures.1
    (rw c.deref.ensures at c.expr.ensures))

pub call-returns-in_err-arguments : goal.call-returns-in_err-arguments
call-returns-in_err-arguments t c =
    subst (λ ds. Parses c.from_residual-in_err-arguments.result (in_box expr_of) c.within.new.names
    (parse_call c.args.pos ds c.args.names.now)) (sym (one_first c.args.elements.now c.in-Cons.is))
    (bind_ok _ _ _ _ _ _ _ (rw c.deref.ensures at c.in_ok-function.ensures)
    (bind_exit _ _ _ _ _ _ _ _ _ c.in_err-arguments.was c.from_residual-in_err-arguments.ensures.1
    (rw c.deref-2.ensures at c.within.ensures)))

pub call-returns : goal.call-returns
call-returns t c =
    ap (λ ds. parse_call c.args.pos ds c.args.names.now) (one_first c.args.elements.now c.in-Cons.is)
    ∙ bind_reads _ _ _ _ _ (rw c.deref.ensures at c.in_ok-function.ensures)
    (bind_reads _ _ _ _ _ (rw c.deref-2.ensures at c.in_ok-arguments.ensures)
    (ap (λ e. Reads (e, c.within.new.names)) (sym c.in_ok-called.ensures)))

pub each-returns-in_err-first : goal.each-returns-in_err-first
each-returns-in_err-first t c =
    each_exit _ _ _ _ _ _ _ _ _ _ c.in_err-first.was c.from_residual.ensures.1
    (rw c.deref.ensures at c.expr.ensures) (rw c.in-Cons.is at c.loop-left.invariant.0)

pub each-loop-left-preserved : goal.each-loop-left-preserved
each-loop-left-preserved t c = (
  rw (c.deref-left.ensures, c.in_ok-push.ensures) (each_more _ _ _ _ _ _ _
      (rw c.deref.ensures at c.in_ok-first.ensures) (rw c.in-Cons.is at c.loop-left.invariant.0)),
  search (rules, the_lemmas),
)

pub function-returns-in_err-elements : goal.function-returns-in_err-elements
function-returns-in_err-elements t c =
    let row = function_row (marked (datum_of c.args.sexp.now)) c.args.names.now in
    subst (λ w. Parses c.from_residual.result (in_box lambda_of) c.args.names.now w) (sym row)
    (plain_exit _ _ _ _ _ _ _ _ _ c.in_err-elements.was c.from_residual.ensures.1 c.behind_lambda.ensures.behind)

pub function-returns : goal.function-returns
function-returns t c =
    let row = function_row (marked (datum_of c.args.sexp.now)) c.args.names.now in
    let at = place_marked (out-Sexp c.args.sexp.now).pos (out-Sexp c.args.sexp.now).node in
    subst (λ w. Parses c.lambda.result (in_box lambda_of) c.lambda.new.names w) (sym row)
    (bind_ok _ _ _ _ _ _ _ (plain_reads _ _ _ c.in_ok-elements.ensures.behind)
    (subst (λ p. Parses c.lambda.result (in_box lambda_of) c.lambda.new.names (lambda_from p (all_marked (datums_of
    c.in_ok-elements.elements.now)) c.args.names.now)) (sym at) c.lambda.ensures))

pub headed-returns-in_err-lambda-in-Lambda : goal.headed-returns-in_err-lambda-in-Lambda
headed-returns-in_err-lambda-in-Lambda t c =
    subst (λ w. Parses c.from_residual.result (in_box expr_of) c.lambda.new.names
    (headed_of w c.args.pos (all_marked (datums_of c.args.rest.now)) c.args.names.now)) (sym c.in-Lambda.is)
    (bind_exit _ _ _ _ _ _ _ _ _ c.in_err-lambda-in-Lambda.was c.from_residual.ensures.1 c.lambda.ensures)

pub headed-returns-in_ok-function_at-in-Lambda : goal.headed-returns-in_ok-function_at-in-Lambda
headed-returns-in_ok-function_at-in-Lambda t c =
    ap (λ w. headed_of w c.args.pos (all_marked (datums_of c.args.rest.now)) c.args.names.now) c.in-Lambda.is
    ∙ bind_reads _ _ _ _ _ c.in_ok-lambda-in-Lambda.ensures
    (ap (λ e. Reads (e, c.lambda.new.names)) (sym c.in_ok-function_at-in-Lambda.ensures))

pub headed-returns-in-Let : goal.headed-returns-in-Let
headed-returns-in-Let t c = headed_by _ _ _ _ _ _ _ _ c.in-Let.is c.let_form.ensures

pub headed-returns-in-Letrec : goal.headed-returns-in-Letrec
headed-returns-in-Letrec t c = headed_by _ _ _ _ _ _ _ _ c.in-Letrec.is c.letrec_form.ensures

pub headed-returns-in-If : goal.headed-returns-in-If
headed-returns-in-If t c = headed_by _ _ _ _ _ _ _ _ c.in-If.is c.if_form.ensures

pub headed-returns-in-Begin : goal.headed-returns-in-Begin
headed-returns-in-Begin t c = headed_by _ _ _ _ _ _ _ _ c.in-Begin.is c.applied.ensures

pub headed-returns-in-Colon : goal.headed-returns-in-Colon
headed-returns-in-Colon t c = headed_by _ _ _ _ _ _ _ _ c.in-Colon.is c.ascription.ensures

pub headed-returns-in-And : goal.headed-returns-in-And
headed-returns-in-And t c = headed_by _ _ _ _ _ _ _ _ c.in-And.is c.applied-in-And.ensures

pub headed-returns-in-Or : goal.headed-returns-in-Or
headed-returns-in-Or t c = headed_by _ _ _ _ _ _ _ _ c.in-Or.is c.applied-in-Or.ensures

pub headed-returns-in-Repeat : goal.headed-returns-in-Repeat
headed-returns-in-Repeat t c = headed_by _ _ _ _ _ _ _ _ c.in-Repeat.is c.repeat.ensures

pub headed-returns-in-Tuple : goal.headed-returns-in-Tuple
headed-returns-in-Tuple t c = headed_by _ _ _ _ _ _ _ _ c.in-Tuple.is c.applied-in-Tuple.ensures

pub headed-returns-in-TupleProj : goal.headed-returns-in-TupleProj
headed-returns-in-TupleProj t c = headed_by _ _ _ _ _ _ _ _ c.in-TupleProj.is c.projection.ensures

pub headed-returns-in-Operator : goal.headed-returns-in-Operator
headed-returns-in-Operator t c = headed_by _ _ _ _ _ _ _ _ c.in-Operator.is c.applied-in-Operator.ensures

pub if_form-returns-in_err-parts : goal.if_form-returns-in_err-parts
if_form-returns-in_err-parts t c =
    plain_exit _ _ _ _ _ _ _ _ _ c.in_err-parts.was c.from_residual.ensures.1 c.three_of.ensures.elements

pub if_form-returns-in_err-condition : goal.if_form-returns-in_err-condition
if_form-returns-in_err-condition t c =
    bind_ok _ _ _ _ _ _ _ (plain_reads _ _ _ c.in_ok-parts.ensures.elements)
    (bind_exit _ _ _ _ _ _ _ _ _ c.in_err-condition.was c.from_residual-in_err-condition.ensures.1 c.expr.ensures)

pub if_form-returns-in_err-on_true : goal.if_form-returns-in_err-on_true
if_form-returns-in_err-on_true t c =
    bind_ok _ _ _ _ _ _ _ (plain_reads _ _ _ c.in_ok-parts.ensures.elements)
    (bind_ok _ _ _ _ _ _ _ c.in_ok-condition.ensures
    (bind_exit _ _ _ _ _ _ _ _ _ c.in_err-on_true.was c.from_residual-in_err-on_true.ensures.1 c.expr-2.ensures))

pub if_form-returns-in_err-on_false : goal.if_form-returns-in_err-on_false
if_form-returns-in_err-on_false t c =
    bind_ok _ _ _ _ _ _ _ (plain_reads _ _ _ c.in_ok-parts.ensures.elements)
    (bind_ok _ _ _ _ _ _ _ c.in_ok-condition.ensures
    (bind_ok _ _ _ _ _ _ _ c.in_ok-on_true.ensures
    (bind_exit _ _ _ _ _ _ _ _ _ c.in_err-on_false.was c.from_residual-in_err-on_false.ensures.1 c.expr-3.ensures)))

pub if_form-returns : goal.if_form-returns
if_form-returns t c =
    bind_reads _ _ _ _ _ (plain_reads _ _ _ c.in_ok-parts.ensures.elements)
    (bind_reads _ _ _ _ _ c.in_ok-condition.ensures
    (bind_reads _ _ _ _ _ c.in_ok-on_true.ensures
    (bind_reads _ _ _ _ _ c.in_ok-on_false.ensures
    (ap (λ e. Reads (e, c.expr-3.new.names)) (sym c.in_ok-if_at.ensures)))))

pub lambda-returns-in_err-params : goal.lambda-returns-in_err-params
lambda-returns-in_err-params t c =
    plain_exit _ _ _ _ _ _ _ _ _ c.in_err-params.was c.from_residual.ensures.1 c.lambda_parts.ensures.parts

pub lambda-returns-in_err-params-2 : goal.lambda-returns-in_err-params-2
lambda-returns-in_err-params-2 t c =
    bind_ok _ _ _ _ _ _ _ (plain_reads _ _ _ c.in_ok-params.ensures.parts)
    (plain_exit _ _ _ _ _ _ _ _ _ c.in_err-params-2.was c.from_residual-in_err-params-2.ensures.1 c.param_list.ensures)

pub lambda-returns : goal.lambda-returns
lambda-returns t c =
    bind_ok _ _ _ _ _ _ _ (plain_reads _ _ _ c.in_ok-params.ensures.parts)
    (bind_ok _ _ _ _ _ _ _ (plain_reads _ _ _ c.in_ok-params-2.ensures)
    (c.lambda_with.ensures))

pub lambda_with-returns-in_err-typed : goal.lambda_with-returns-in_err-typed
lambda_with-returns-in_err-typed t c =
    let row = behind_row c.args.pos (params_of c.args.params) (all_marked (datums_of c.args.rest.now))
    c.args.names.now in
    subst (λ w. Parses c.from_residual.result (in_box lambda_of) c.args.names.now w) (sym row)
    (plain_exit _ _ _ _ _ _ _ _ _ c.in_err-typed.was c.from_residual.ensures.1 c.typed_body.ensures.parts)

pub lambda_with-returns-in_err-body : goal.lambda_with-returns-in_err-body
lambda_with-returns-in_err-body t c =
    let row = behind_row c.args.pos (params_of c.args.params) (all_marked (datums_of c.args.rest.now))
    c.args.names.now in
    let none = none_of c.in_ok-typed.typed c.in_default.not-Some in
    subst (λ w. Parses c.from_residual-in_err-body.result (in_box lambda_of) c.each.new.names w) (sym row)
    (bind_ok _ _ _ _ _ _ _ (plain_reads _ _ _ c.in_ok-typed.ensures.parts)
    (subst (λ w. Parses c.from_residual-in_err-body.result (in_box lambda_of) c.each.new.names w)
    (sym (plain_body _ _ _ _ _ _ none))
    (bind_exit _ _ _ _ _ _ _ _ _ c.in_err-body.was c.from_residual-in_err-body.ensures.1 c.each.ensures)))

pub lambda_with-returns-in_default : goal.lambda_with-returns-in_default
lambda_with-returns-in_default t c =
    let row = behind_row c.args.pos (params_of c.args.params) (all_marked (datums_of c.args.rest.now))
    c.args.names.now in
    let none = none_of c.in_ok-typed.typed c.in_default.not-Some in
    row ∙ bind_reads _ _ _ _ _ (plain_reads _ _ _ c.in_ok-typed.ensures.parts)
    (plain_body _ _ _ _ _ _ none ∙ bind_reads _ _ _ _ _ c.in_ok-body.ensures
    (ap (λ l. Reads (l, c.each.new.names)) (sym c.in_ok-lambda_at.ensures)))

pub lambda_with-returns-in_err-result_type : goal.lambda_with-returns-in_err-result_type
lambda_with-returns-in_err-result_type t c =
    let row = behind_row c.args.pos (params_of c.args.params) (all_marked (datums_of c.args.rest.now))
    c.args.names.now in
    subst (λ w. Parses c.from_residual-in_err-result_type.result (in_box lambda_of) c.args.names.now w) (sym row)
    (bind_ok _ _ _ _ _ _ _ (plain_reads _ _ _ c.in_ok-typed.ensures.parts)
    (subst (λ w. Parses c.from_residual-in_err-result_type.result (in_box lambda_of) c.args.names.now w)
    (sym (typed_here _ _ c.in-Some.typed _ _ _ _ c.in-Some.is))
    (plain_exit _ _ _ _ _ _ _ _ _ c.in_err-result_type.was c.from_residual-in_err-result_type.ensures.1
    c.type_expr.ensures)))

pub lambda_with-returns-in_err-body-2 : goal.lambda_with-returns-in_err-body-2
lambda_with-returns-in_err-body-2 t c =
    let row = behind_row c.args.pos (params_of c.args.params) (all_marked (datums_of c.args.rest.now))
    c.args.names.now in
    subst (λ w. Parses c.from_residual-in_err-body-2.result (in_box lambda_of) c.each-2.new.names w) (sym row)
    (bind_ok _ _ _ _ _ _ _ (plain_reads _ _ _ c.in_ok-typed.ensures.parts)
    (subst (λ w. Parses c.from_residual-in_err-body-2.result (in_box lambda_of) c.each-2.new.names w)
    (sym (typed_here _ _ c.in-Some.typed _ _ _ _ c.in-Some.is))
    (bind_ok _ _ _ _ _ _ _ (plain_reads _ _ _ c.in_ok-result_type.ensures)
    (bind_exit _ _ _ _ _ _ _ _ _ c.in_err-body-2.was c.from_residual-in_err-body-2.ensures.1 c.each-2.ensures))))

pub lambda_with-returns : goal.lambda_with-returns
lambda_with-returns t c =
    let row = behind_row c.args.pos (params_of c.args.params) (all_marked (datums_of c.args.rest.now))
    c.args.names.now in
    row ∙ bind_reads _ _ _ _ _ (plain_reads _ _ _ c.in_ok-typed.ensures.parts)
    (typed_here _ _ c.in-Some.typed _ _ _ _ c.in-Some.is
    ∙ bind_reads _ _ _ _ _ (plain_reads _ _ _ c.in_ok-result_type.ensures)
    (bind_reads _ _ _ _ _ c.in_ok-body-2.ensures
    (ap (λ l. Reads (l, c.each-2.new.names)) (sym c.in_ok-lambda_at-2.ensures))))

pub let_form-returns-in_err-bindings : goal.let_form-returns-in_err-bindings
let_form-returns-in_err-bindings t c =
    plain_exit _ _ _ _ _ _ _ _ _ c.in_err-bindings.was c.from_residual.ensures.1 c.names_and_body.ensures.elements

pub let_form-returns-in_err-bindings-2 : goal.let_form-returns-in_err-bindings-2
let_form-returns-in_err-bindings-2 t c =
    bind_ok _ _ _ _ _ _ _ (plain_reads _ _ _ c.in_ok-bindings.ensures.elements)
    (bind_exit _ _ _ _ _ _ _ _ _ c.in_err-bindings-2.was c.from_residual-in_err-bindings-2.ensures.1 c.lets.ensures)

pub let_form-returns-in_err-body : goal.let_form-returns-in_err-body
let_form-returns-in_err-body t c =
    bind_ok _ _ _ _ _ _ _ (plain_reads _ _ _ c.in_ok-bindings.ensures.elements)
    (bind_ok _ _ _ _ _ _ _ c.in_ok-bindings-2.ensures
    (bind_exit _ _ _ _ _ _ _ _ _ c.in_err-body.was c.from_residual-in_err-body.ensures.1 c.each.ensures))

pub let_form-returns : goal.let_form-returns
let_form-returns t c =
    bind_reads _ _ _ _ _ (plain_reads _ _ _ c.in_ok-bindings.ensures.elements)
    (bind_reads _ _ _ _ _ c.in_ok-bindings-2.ensures
    (bind_reads _ _ _ _ _ c.in_ok-body.ensures
    (ap (λ e. Reads (e, c.each.new.names)) (sym c.in_ok-let_at.ensures))))

pub letrec_form-returns-in_err-members : goal.letrec_form-returns-in_err-members
letrec_form-returns-in_err-members t c =
    plain_exit _ _ _ _ _ _ _ _ _ c.in_err-members.was c.from_residual.ensures.1 c.names_and_body.ensures.elements

pub letrec_form-returns-in_err-members-2 : goal.letrec_form-returns-in_err-members-2
letrec_form-returns-in_err-members-2 t c =
    bind_ok _ _ _ _ _ _ _ (plain_reads _ _ _ c.in_ok-members.ensures.elements)
    (bind_exit _ _ _ _ _ _ _ _ _ c.in_err-members-2.was c.from_residual-in_err-members-2.ensures.1 c.letrecs.ensures)

pub letrec_form-returns-in_err-body : goal.letrec_form-returns-in_err-body
letrec_form-returns-in_err-body t c =
    bind_ok _ _ _ _ _ _ _ (plain_reads _ _ _ c.in_ok-members.ensures.elements)
    (bind_ok _ _ _ _ _ _ _ c.in_ok-members-2.ensures
    (bind_exit _ _ _ _ _ _ _ _ _ c.in_err-body.was c.from_residual-in_err-body.ensures.1 c.each.ensures))

pub letrec_form-returns : goal.letrec_form-returns
letrec_form-returns t c =
    bind_reads _ _ _ _ _ (plain_reads _ _ _ c.in_ok-members.ensures.elements)
    (bind_reads _ _ _ _ _ c.in_ok-members-2.ensures
    (bind_reads _ _ _ _ _ c.in_ok-body.ensures
    (ap (λ e. Reads (e, c.each.new.names)) (sym c.in_ok-letrec_at.ensures))))

pub letrecs-returns-in_err-first : goal.letrecs-returns-in_err-first
letrecs-returns-in_err-first t c =
    bound_exit letrecs_bind _ _ _ _ _ _ _ _ _ _ _ _ c.in_err-first.was c.from_residual.ensures.1
    (rw c.deref.ensures at c.member.ensures.member) (rw c.in-Cons.is at c.loop-left.invariant.0)

pub lets-returns-in_err-first : goal.lets-returns-in_err-first
lets-returns-in_err-first t c =
    bound_exit lets_bind _ _ _ _ _ _ _ _ _ _ _ _ c.in_err-first.was c.from_residual.ensures.1
    (rw c.deref.ensures at c.binding.ensures.binding) (rw c.in-Cons.is at c.loop-left.invariant.0)

pub list-returns-in_default-word_at : goal.list-returns-in_default-word_at
list-returns-in_default-word_at t c =
    let shape = one_first c.args.elements.now c.in-Cons.is in
    let none = rw c.deref.ensures at (sym c.word_at.ensures
    ∙ none_of c.word_at.result c.in_default-word_at.not-Some) in
    let row = no_word c.args.pos (marked (datum_of c.in-Cons.head.value)) (all_marked (datums_of
    c.in-Cons.rest.value)) c.args.names.now none in
    let same = ap (λ ds. parse_list c.args.pos ds c.args.names.now) shape ∙ row
    ∙ ap (λ ds. parse_call c.args.pos ds c.args.names.now) (sym shape) in
    subst (λ w. Parses c.call.result (in_box expr_of) c.call.new.names w) (sym same) c.call.ensures

pub list-returns-then-is_arrow : goal.list-returns-then-is_arrow
list-returns-then-is_arrow t c =
    let found = rw c.deref.ensures at (sym c.word_at.ensures ∙ c.in-Some.is) in
    let row = arrow_heads c.args.pos (marked (datum_of c.in-Cons.head.value)) (all_marked (datums_of
    c.in-Cons.rest.value)) c.in-Some.word c.args.names.now found (sym c.is_arrow.ensures ∙ c.if-is_arrow.true) in
    answers_refused _ _ _ _ _ _ c.bad_form.ensures
    (ap (λ ds. parse_list c.args.pos ds c.args.names.now) (one_first c.args.elements.now c.in-Cons.is) ∙ row
    ∙ ap (λ p. Refuses BadForm p) (place_marked (out-Sexp c.in-Cons.head.value).pos
    (out-Sexp c.in-Cons.head.value).node)
    ∙ ap (λ (s : Sexp). Refuses BadForm (out-Sexp s).pos) (sym c.deref-then-is_arrow.ensures))

pub within-returns-then-room-eq0 : goal.within-returns-then-room-eq0
within-returns-then-room-eq0 t c =
    answers_refused _ _ _ _ _ _ c.refused.ensures
    (ap (λ ds. parse_within c.args.room ds c.args.names.now) (one_first c.args.list.now c.in-Cons.is)
    ∙ within_full c.args.room (marked (datum_of c.in-Cons.first.value)) (all_marked (datums_of c.in-Cons.rest.value))
    c.args.names.now c.if-room-eq0.true
    ∙ ap (λ p. Refuses TooWide p) (place_marked (out-Sexp c.in-Cons.first.value).pos
    (out-Sexp c.in-Cons.first.value).node)
    ∙ ap (λ (s : Sexp). Refuses TooWide (out-Sexp s).pos) (sym c.deref.ensures))

pub within-returns-in_err-first : goal.within-returns-in_err-first
within-returns-in_err-first t c =
    let row = ap (λ ds. parse_within c.args.room ds c.args.names.now) (one_first c.args.list.now c.in-Cons.is)
    ∙ within_more c.args.room _ _ c.args.names.now c.if-room-eq0.false in
    subst (λ w. Parses c.from_residual.result exprs_of c.expr.new.names w) (sym row)
    (bind_exit _ _ _ _ _ _ _ _ _ c.in_err-first.was c.from_residual.ensures.1 (rw c.deref-2.ensures at c.expr.ensures))

pub within-returns-in_err-rest : goal.within-returns-in_err-rest
within-returns-in_err-rest t c =
    let row = ap (λ ds. parse_within c.args.room ds c.args.names.now) (one_first c.args.list.now c.in-Cons.is)
    ∙ within_more c.args.room _ _ c.args.names.now c.if-room-eq0.false in
    subst (λ w. Parses c.from_residual-in_err-rest.result exprs_of c.within.new.names w) (sym row)
    (bind_ok _ _ _ _ _ _ _ (rw c.deref-2.ensures at c.in_ok-first.ensures)
    (bind_exit _ _ _ _ _ _ _ _ _ c.in_err-rest.was c.from_residual-in_err-rest.ensures.1
    (rw c.deref-3.ensures at c.within.ensures)))

pub within-returns : goal.within-returns
within-returns t c =
    let row = ap (λ ds. parse_within c.args.room ds c.args.names.now) (one_first c.args.list.now c.in-Cons.is)
    ∙ within_more c.args.room _ _ c.args.names.now c.if-room-eq0.false in
    row ∙ bind_reads _ _ _ _ _ (rw c.deref-2.ensures at c.in_ok-first.ensures)
    (bind_reads _ _ _ _ _ (rw c.deref-3.ensures at c.in_ok-rest.ensures)
    (ap (λ e. Reads (e, c.within.new.names)) (sym c.in_ok-cons.ensures)))

pub lets-loop-left-preserved : goal.lets-loop-left-preserved
lets-loop-left-preserved t c = (
  rw (c.deref-left.ensures, c.in_ok-push.ensures) (bound_more lets_bind _ _ _ _ _ _ _ _ _
      (rw c.deref.ensures at c.in_ok-first.ensures.binding) c.in_ok-first.ensures.bound c.in_ok-first.ensures.source
      (rw c.in-Cons.is at c.loop-left.invariant.0)),
  search (rules, the_lemmas),
)

pub letrecs-loop-left-preserved : goal.letrecs-loop-left-preserved
letrecs-loop-left-preserved t c = (
  rw (c.deref-left.ensures, c.in_ok-push.ensures) (bound_more letrecs_bind _ _ _ _ _ _ _ _ _
      (rw c.deref.ensures at c.in_ok-first.ensures.member) c.in_ok-first.ensures.bound c.in_ok-first.ensures.source
      (rw c.in-Cons.is at c.loop-left.invariant.0)),
  search (rules, the_lemmas),
)

pub list-returns : goal.list-returns
list-returns t c =
    let shape = one_first c.args.elements.now c.in-Cons.is in
    let found = rw c.deref.ensures at (sym c.word_at.ensures ∙ c.in-Some.is) in
    let row = list_row c.args.pos (marked (datum_of c.in-Cons.head.value)) (all_marked (datums_of
    c.in-Cons.rest.value)) c.in-Some.word c.args.names.now found (sym c.is_arrow.ensures ∙ c.if-is_arrow.false) in
    subst (λ ds. Parses c.headed.result (in_box expr_of) c.headed.new.names (parse_list c.args.pos ds c.args.names.now))
    (sym shape) (subst (λ w. Parses c.headed.result (in_box expr_of) c.headed.new.names w) (sym row)
    (rw c.deref-2.ensures at c.headed.ensures))

pub range-returns-in_err-parts : goal.range-returns-in_err-parts
range-returns-in_err-parts t c =
    let row = range_row (marked (datum_of c.args.sexp.now)) c.args.names.now in
    subst (λ w. Parses c.from_residual.result range_of c.args.names.now w) (sym row)
    (plain_exit _ _ _ _ _ _ _ _ _ c.in_err-parts.was c.from_residual.ensures.1 c.range_parts.ensures.elements)

pub range-returns-in_err-counter : goal.range-returns-in_err-counter
range-returns-in_err-counter t c =
    let row = range_row (marked (datum_of c.args.sexp.now)) c.args.names.now in
    subst (λ w. Parses c.from_residual-in_err-counter.result range_of c.args.names.now w) (sym row)
    (bind_ok _ _ _ _ _ _ _ (plain_reads _ _ _ c.in_ok-parts.ensures.elements)
    (plain_exit _ _ _ _ _ _ _ _ _ c.in_err-counter.was c.from_residual-in_err-counter.ensures.1 c.only_name.ensures))

pub range-returns-in_err-first : goal.range-returns-in_err-first
range-returns-in_err-first t c =
    let row = range_row (marked (datum_of c.args.sexp.now)) c.args.names.now in
    subst (λ w. Parses c.from_residual-in_err-first.result range_of c.expr.new.names w) (sym row)
    (bind_ok _ _ _ _ _ _ _ (plain_reads _ _ _ c.in_ok-parts.ensures.elements)
    (bind_ok _ _ _ _ _ _ _ (plain_reads _ _ _ c.in_ok-counter.ensures)
    (bind_exit _ _ _ _ _ _ _ _ _ c.in_err-first.was c.from_residual-in_err-first.ensures.1 c.expr.ensures)))

pub range-returns-in_err-bound : goal.range-returns-in_err-bound
range-returns-in_err-bound t c =
    let row = range_row (marked (datum_of c.args.sexp.now)) c.args.names.now in
    subst (λ w. Parses c.from_residual-in_err-bound.result range_of c.expr-2.new.names w) (sym row)
    (bind_ok _ _ _ _ _ _ _ (plain_reads _ _ _ c.in_ok-parts.ensures.elements)
    (bind_ok _ _ _ _ _ _ _ (plain_reads _ _ _ c.in_ok-counter.ensures)
    (bind_ok _ _ _ _ _ _ _ c.in_ok-first.ensures
    (bind_exit _ _ _ _ _ _ _ _ _ c.in_err-bound.was c.from_residual-in_err-bound.ensures.1 c.expr-2.ensures))))

pub range-returns : goal.range-returns
range-returns t c =
    let row = range_row (marked (datum_of c.args.sexp.now)) c.args.names.now in
    row ∙ bind_reads _ _ _ _ _ (plain_reads _ _ _ c.in_ok-parts.ensures.elements)
    (bind_reads _ _ _ _ _ (plain_reads _ _ _ c.in_ok-counter.ensures)
    (bind_reads _ _ _ _ _ c.in_ok-first.ensures
    (bind_reads _ _ _ _ _ c.in_ok-bound.ensures
    (refl))))

pub repeat-returns-in_err-parts : goal.repeat-returns-in_err-parts
repeat-returns-in_err-parts t c =
    plain_exit _ _ _ _ _ _ _ _ _ c.in_err-parts.was c.from_residual.ensures.1 c.repeat_parts.ensures.parts

pub repeat-returns-in_err-range : goal.repeat-returns-in_err-range
repeat-returns-in_err-range t c =
    bind_ok _ _ _ _ _ _ _ (plain_reads _ _ _ c.in_ok-parts.ensures.parts)
    (bind_exit _ _ _ _ _ _ _ _ _ c.in_err-range.was c.from_residual-in_err-range.ensures.1 c.range.ensures)

pub repeat-returns-in_err-body : goal.repeat-returns-in_err-body
repeat-returns-in_err-body t c =
    let none = none_of c.in_ok-parts.parts.start c.in_default.not-Some in
    bind_ok _ _ _ _ _ _ _ (plain_reads _ _ _ c.in_ok-parts.ensures.parts)
    (bind_ok _ _ _ _ _ _ _ c.in_ok-range.ensures
    (subst (λ w. Parses c.from_residual-in_err-body.result (in_box expr_of) c.expr.new.names w)
    (sym (counted_here _ _ _ _ _ _ none))
    (bind_exit _ _ _ _ _ _ _ _ _ c.in_err-body.was c.from_residual-in_err-body.ensures.1 c.expr.ensures)))

pub repeat-returns-in_default : goal.repeat-returns-in_default
repeat-returns-in_default t c =
    let none = none_of c.in_ok-parts.parts.start c.in_default.not-Some in
    bind_reads _ _ _ _ _ (plain_reads _ _ _ c.in_ok-parts.ensures.parts)
    (bind_reads _ _ _ _ _ c.in_ok-range.ensures
    (counted_here _ _ _ _ _ _ none ∙ bind_reads _ _ _ _ _ c.in_ok-body.ensures
    (bind_reads _ _ _ _ _ refl
    (ap₂ (λ e names. Reads (e, names)) (sym c.in_ok-counted_repeat.ensures.expr) (sym
    c.in_ok-counted_repeat.ensures.next)))))

pub repeat-returns-in_err-start : goal.repeat-returns-in_err-start
repeat-returns-in_err-start t c =
    bind_ok _ _ _ _ _ _ _ (plain_reads _ _ _ c.in_ok-parts.ensures.parts)
    (bind_ok _ _ _ _ _ _ _ c.in_ok-range.ensures
    (subst (λ w. Parses c.from_residual-in_err-start.result (in_box expr_of) c.binding.new.names w)
    (sym (gathered_here _ _ c.in-Some.start _ _ _ _ c.in-Some.is))
    (bind_exit _ _ _ _ _ _ _ _ _ c.in_err-start.was c.from_residual-in_err-start.ensures.1
    (rw c.in_ok-scope.ensures at c.binding.ensures.binding))))

pub repeat-returns-in_err-body-2 : goal.repeat-returns-in_err-body-2
repeat-returns-in_err-body-2 t c =
    bind_ok _ _ _ _ _ _ _ (plain_reads _ _ _ c.in_ok-parts.ensures.parts)
    (bind_ok _ _ _ _ _ _ _ c.in_ok-range.ensures
    (subst (λ w. Parses c.from_residual-in_err-body-2.result (in_box expr_of) c.expr-2.new.names w)
    (sym (gathered_here _ _ c.in-Some.start _ _ _ _ c.in-Some.is))
    (bind_ok _ _ _ _ _ _ _ (rw c.in_ok-scope.ensures at c.in_ok-start.ensures.binding)
    (bind_exit _ _ _ _ _ _ _ _ _ c.in_err-body-2.was c.from_residual-in_err-body-2.ensures.1 c.expr-2.ensures))))

pub repeat-returns : goal.repeat-returns
repeat-returns t c =
    bind_reads _ _ _ _ _ (plain_reads _ _ _ c.in_ok-parts.ensures.parts)
    (bind_reads _ _ _ _ _ c.in_ok-range.ensures
    (gathered_here _ _ c.in-Some.start _ _ _ _ c.in-Some.is ∙ bind_reads _ _ _ _ _
    (rw c.in_ok-scope.ensures at c.in_ok-start.ensures.binding)
    (bind_reads _ _ _ _ _ c.in_ok-body-2.ensures
    (bind_reads _ _ _ _ _ refl
    (bind_reads _ _ _ _ _ refl
    (ap₂ (λ e names. Reads (e, names)) (sym c.in_ok-gathered_repeat.ensures.expr) (sym
    c.in_ok-gathered_repeat.ensures.next)))))))
