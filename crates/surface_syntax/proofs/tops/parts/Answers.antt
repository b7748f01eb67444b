use Rattle.std.proofs.Common.{map, [], ◌∷◌, ap, sym, ◌∙◌, arith, length-append}
use Rattle.grift_base.specs.declared.refusals.RefusalKind.TheVariants.{TooManyForms}
use Rattle.sexpr_reader.specs.declared.sexps.Sexp.{Sexp, out-Sexp}
use Rattle.sexpr_reader.specs.View.{datum_of, datums_of}
use Rattle.form_table.specs.Marked.{marked, all_marked}
use Rattle.form_table.specs.Walking.{Refuses}
use Rattle.surface_syntax.specs.TopParts.{part_of}
use Rattle.form_table.proofs.Public.{place_marked}
use Rattle.surface_syntax.proofs.FormRows.{answers_refused}
use Rattle.surface_syntax.proofs.Rows.{tops_full, tops_exit, tops_more}
use Rattle.surface_syntax.proofs.tops.parts.Goals as goal

pub returns-then-room-eq0-clause-parts : goal.returns-then-room-eq0-clause-parts
returns-then-room-eq0-clause-parts c =
    answers_refused _ _ _ _ _ _ c.refused.ensures
    (tops_full (map part_of c.loop-left.parts.items) c.loop-left.room c.loop-left.run
    (marked (datum_of c.in-Cons.first.value)) (all_marked (datums_of c.in-Cons.rest.value)) c.loop-left.names _
    c.if-room-eq0.true (rw c.in-Cons.is at c.loop-left.invariant.read)
    ∙ ap (λ p. Refuses TooManyForms p) (place_marked (out-Sexp c.in-Cons.first.value).pos
    (out-Sexp c.in-Cons.first.value).node)
    ∙ ap (λ (s : Sexp). Refuses TooManyForms (out-Sexp s).pos) (sym c.deref.ensures))

pub returns-in_err-part-clause-parts : goal.returns-in_err-part-clause-parts
returns-in_err-part-clause-parts c =
    tops_exit _ _ _ _ _ _ _ _ _ _ _ _ _ c.in_err-part.was c.from_residual.ensures.1 c.if-room-eq0.false
    (rw c.deref-in-Cons.ensures at c.next_part.ensures.part) (rw c.in-Cons.is at c.loop-left.invariant.read)

pub loop-left-preserved : goal.loop-left-preserved
loop-left-preserved c =
    let longer = length-append c.loop-left.parts.items (c.in_ok-part.part ∷ []) in
    record {
      read = rw (c.deref-left.ensures, c.in_ok-push.ensures) (tops_more _ _ _ _ _ _ _ _ _ _ c.if-room-eq0.false
          (rw c.deref-in-Cons.ensures at c.in_ok-part.ensures.part) c.in_ok-part.ensures.run
          (rw c.in-Cons.is at c.loop-left.invariant.read));
      few = rw c.in_ok-push.ensures (omega (arith, longer));
      all = rw (c.deref-left.ensures, c.in_ok-push.ensures) (omega (
        arith,
        longer,
        rw c.in-Cons.is at c.loop-left.invariant.all,
      ));
    }
