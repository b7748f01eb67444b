use Rattle.std.proofs.Common.{ap, sym, ◌∙◌}
use Rattle.grift_base.specs.declared.refusals.RefusalKind.TheVariants.{TooWide}
use Rattle.sexpr_reader.specs.declared.sexps.Sexp.{Sexp, out-Sexp}
use Rattle.sexpr_reader.specs.View.{datum_of, datums_of}
use Rattle.form_table.specs.Marked.{marked, all_marked}
use Rattle.form_table.specs.Walking.{Refuses}
use Rattle.surface_trees.specs.Views.{params_of}
use Rattle.form_table.proofs.Public.{place_marked, walk_refused}
use Rattle.surface_syntax.proofs.ParamRows.{params_full, params_exit, params_more}
use Rattle.surface_syntax.proofs.params.params.Goals as goal

pub returns-then-room-eq0 : goal.returns-then-room-eq0
returns-then-room-eq0 c =
    walk_refused _ _ _ _ _ c.refused.ensures
    (params_full (params_of c.loop-list.params) c.loop-list.room c.loop-list.scope
    (marked (datum_of c.in-Cons.first.value)) (all_marked (datums_of c.in-Cons.rest.value)) _ c.if-room-eq0.true
    (rw c.in-Cons.is at c.loop-list.invariant)
    ∙ ap (λ p. Refuses TooWide p) (place_marked (out-Sexp c.in-Cons.first.value).pos
    (out-Sexp c.in-Cons.first.value).node)
    ∙ ap (λ (s : Sexp). Refuses TooWide (out-Sexp s).pos) (sym c.deref.ensures))

pub returns-in_err-param : goal.returns-in_err-param
returns-in_err-param c =
    params_exit _ _ _ _ _ _ _ _ _ _ _ c.in_err-param.was c.from_residual.ensures.1 c.if-room-eq0.false
    (rw c.deref-in-Cons.ensures at c.param.ensures.param) (rw c.in-Cons.is at c.loop-list.invariant)

pub loop-list-preserved : goal.loop-list-preserved
loop-list-preserved c =
    rw (c.deref-list.ensures, c.in_ok-push.ensures.ok) (params_more _ _ _ _ _ _ _ _ c.if-room-eq0.false
    (rw c.deref-in-Cons.ensures at c.in_ok-param.ensures.param) c.in_ok-param.ensures.bound
    (rw c.in-Cons.is at c.loop-list.invariant))
