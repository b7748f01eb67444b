use Rattle.std.proofs.Common.{[], ◌∷◌, ◌++◌, ap, ◌∙◌}
use Rattle.sexpr_reader.specs.View.{datum_of}
use Rattle.form_table.specs.Marked.{marked}
use Rattle.surface_syntax.proofs.Rows.{grows_with}
use Rattle.surface_syntax.proofs.tops.define_name.Goals as goal

pub returns-in_default-deref-clause-run : goal.returns-in_default-deref-clause-run
returns-in_default-deref-clause-run c =
    let run = rw c.deref-in_default-deref.ensures at c.run_for.ensures in
    grows_with c.bound.result (marked (datum_of c.in-Cons.second.value)) c.in_ok-name.name c.args.run.now _
    (c.in_ok-name.ensures.bound ∙ ap (λ r. r ++ c.in_ok-name.name ∷ []) run)
    (rw c.deref-in_default-deref-2.ensures at c.bound.ensures.run)

pub returns-clause-run : goal.returns-clause-run
returns-clause-run c =
    let run = rw c.deref-4.ensures at c.run_for-2.ensures in
    grows_with c.bound-2.result (marked (datum_of c.in-Cons-deref-2.fourth.value)) c.in_ok-typed.typed.name
    c.args.run.now _ (c.in_ok-typed.ensures.bound ∙ ap (λ r. r ++ c.in_ok-typed.typed.name ∷ []) run)
    (rw c.deref-7.ensures at c.bound-2.ensures.run)
